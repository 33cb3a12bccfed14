-- What the keys with a range want, as it is written.
use Rattle.std.proofs.Common.{◌≡◌, codes, refl}
use Rattle.std.specs.Fmt.{digits}
use Rattle.look_text.specs.Wants.{wants_text}
use Rattle.look_text.specs.declared.label.Label.TheVariants.{Ram, Steps, Count, Calls, Depth}

pub wants_ram : wants_text Ram ≡ codes "a number of KiB from 128 to 16384, in decimal without a leading zero"
unfolding digits
wants_ram = refl

pub wants_steps : wants_text Steps ≡ codes "a number from 0 to 4294967295, in decimal without a leading zero"
unfolding digits
wants_steps = refl

pub wants_count : wants_text Count ≡ codes "a number from 1 to 4096, in decimal without a leading zero"
unfolding digits
wants_count = refl

pub wants_calls : wants_text Calls ≡ codes "a number from 1 to 1000, in decimal without a leading zero"
unfolding digits
wants_calls = refl

pub wants_depth : wants_text Depth ≡ codes "a number from 1 to 300, in decimal without a leading zero"
unfolding digits
wants_depth = refl

pub ruleset written = (wants_ram, wants_steps, wants_count, wants_calls, wants_depth)
