-- What the key with a range wants, as it is written.
use Rattle.std.proofs.Common.{◌≡◌, codes, refl}
use Rattle.std.specs.Fmt.{digits}
use Rattle.look_words.specs.Sentences.{key_wants}
use Rattle.look_words.specs.declared.look.Key.TheVariants.{Last, Count, Keep}

pub wants_last : key_wants Last ≡ codes "a number from 0 to 1000, in decimal without a leading zero"
unfolding digits
wants_last = refl

pub wants_count : key_wants Count ≡ codes "a number from 1 to 65536, in decimal without a leading zero"
unfolding digits
wants_count = refl

pub wants_keep : key_wants Keep ≡ codes "a number from 0 to 1000, in decimal without a leading zero"
unfolding digits
wants_keep = refl
