-- No kind of a slot is another.
use Rattle.std.proofs.Common.{◌≡◌}
use Rattle.cdcl_core.specs.declared.watches.Kind.TheVariants.{Free, Fixed, Watched, Parked}

pub watched_not_free : Watched ≡ Free → ⊥
watched_not_free e = cc

pub watched_not_fixed : Watched ≡ Fixed → ⊥
watched_not_fixed e = cc

pub fixed_not_free : Fixed ≡ Free → ⊥
fixed_not_free e = cc

pub fixed_not_watched : Fixed ≡ Watched → ⊥
fixed_not_watched e = cc

pub parked_not_free : Parked ≡ Free → ⊥
parked_not_free e = cc

pub parked_not_fixed : Parked ≡ Fixed → ⊥
parked_not_fixed e = cc

pub parked_not_watched : Parked ≡ Watched → ⊥
parked_not_watched e = cc

pub free_not_fixed : Free ≡ Fixed → ⊥
free_not_fixed e = cc

pub free_not_watched : Free ≡ Watched → ⊥
free_not_watched e = cc
