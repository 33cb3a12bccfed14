-- The text is none of the keys before.
use Rattle.std.proofs.Common.{◌≡◌, drop}
use Rattle.look_words.specs.Looks.{key_for}
use Rattle.look_words.proofs.look.find.Given as goal

abbrev pub invariant-loop-key : goal.invariant-loop-key
invariant-loop-key l = key_for (drop l.key-index l.keys) l.text ≡ key_for l.keys l.text
