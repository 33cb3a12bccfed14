use Rattle.std.proofs.Common.{◌≡◌, ℕ, ◌-◌, ◌≤◌, List, [], ◌∷◌, length, map, take, drop, get_or, Option, Some, None, Result, Err, arith, ap, sym, ◌∙◌}
use Rattle.std.specs.Option.{ok_or}
use Rattle.std.proofs.lemmas.List.{take_all}
use Rattle.mix_bits.specs.Results.{◌>>=◌}
use Rattle.job_words.specs.Settings.{verb_of}
use Rattle.job_words.specs.Words.{bad_at, command_by, command_of}
use Rattle.job_words.specs.declared.job.BadWord.{BadWord}
use Rattle.job_words.specs.declared.job.Command.{Command}
use Rattle.job_words.specs.declared.setting.Verb.{Verb}
use Rattle.job_words.proofs.words.read_all.Goals as goal

-- the command that a first word names, or none
asked : {A : Type 0} (text : A → List ℕ) (words : List A) (first : A) (bytes : List ℕ) (o : Option Verb) (verb : Verb) (r : Result Command BadWord) → 1 ≤ length words → first ≡ get_or words 0 first
    → bytes ≡ text first → o ≡ verb_of bytes → o ≡ Some verb → r ≡ command_by verb (map text (take (length words - 1) (drop 1 words))) → r ≡ command_of (map text words)
asked {A} text [] first bytes o verb r some at same named is read = absurd (omega (arith, some))
asked {A} text (word ∷ words) first bytes o verb r some at same named is read =
    read ∙ ap (λ rest. command_by verb (map text rest)) (take_all (length (word ∷ words) - 1) words (omega arith))
    ∙ ap (λ v. ok_or v (bad_at 0) >>= (λ verb. command_by verb (map text words))) (sym is ∙ named ∙ ap verb_of (same ∙ ap text at))

unasked : {A : Type 0} (text : A → List ℕ) (words : List A) (first : A) (bytes : List ℕ) (o : Option Verb) → 1 ≤ length words → first ≡ get_or words 0 first
    → bytes ≡ text first → o ≡ verb_of bytes → o ≡ None → Err (bad_at 0) ≡ command_of (map text words)
unasked {A} text [] first bytes o some at same named is = absurd (omega (arith, some))
unasked {A} text (word ∷ words) first bytes o some at same named is =
    ap (λ v. ok_or v (bad_at 0) >>= (λ verb. command_by verb (map text words))) (sym is ∙ named ∙ ap verb_of (same ∙ ap text at))

pub returns-in-Some : goal.returns-in-Some
returns-in-Some c = asked _ c.args.words.now _ _ _ _ _ c.in-len1-up.len_at_least c.command-item.is c.as_str.ensures.value c.read_verb.ensures c.in-Some.is c.read_command.ensures

pub returns-in-None : goal.returns-in-None
returns-in-None c = unasked _ c.args.words.now _ _ _ c.in-len1-up.len_at_least c.command-item.is c.as_str.ensures.value c.read_verb.ensures c.in-None.is
