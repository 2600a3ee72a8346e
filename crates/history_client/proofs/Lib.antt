mod Tallies
mod Working
