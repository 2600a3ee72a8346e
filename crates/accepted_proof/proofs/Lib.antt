-- Lemmas of the laws on answers and proofs.
pub mod Reaching
pub mod Refuting
pub mod Answering
pub mod Fronts
pub mod Reading
-- Lemmas of the laws on judging.
pub mod Settling
pub mod Once
pub mod Following
mod Parting
pub mod Remaining
pub mod Completing
pub mod Beginning
pub mod Good
-- Lemmas of the law on split variables.
pub mod Splitting
-- Lemmas of the texts of values.
pub mod Pieces
-- Lemmas of the law on what is printed.
pub mod Standing
-- Lemmas of the interpretation that values give.
pub mod Valuing
-- Lemmas of the values of constants.
-- A worked row of the definitions.
mod Worked
