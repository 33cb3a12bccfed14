use Rattle.std.proofs.Common.{rules, ◌≡◌, ℕ, ◌+◌, List, length, Result, Ok, Err, ap, sym, ◌∙◌}
use Rattle.std.specs.Option.{ok_or}
use Rattle.std.proofs.lemmas.List.{length-map}
use Rattle.mix_bits.specs.Results.{◌>>=◌}
use Rattle.job_words.specs.Drafts.{made, nothing}
use Rattle.job_words.specs.Words.{bad_at, command_by, draft_of}
use Rattle.job_words.specs.declared.draft.Draft.{Draft}
use Rattle.job_words.specs.declared.job.BadWord.{BadWord}
use Rattle.job_words.specs.declared.setting.Verb.{Verb}
use Rattle.job_words.proofs.words.read_command.Goals as goal

-- what the words come to, from a draft in which nothing is given
by-words : (verb : Verb) (words : List (List ℕ)) (d : Draft) (r s : Result Draft BadWord) → r ≡ s → r ≡ draft_of verb 1 words d → d ≡ nothing
    → (s >>= (λ draft. ok_or (made verb draft) (bad_at (1 + length words)))) ≡ command_by verb words
by-words verb words d r s was read new = ap (λ r. r >>= (λ draft. ok_or (made verb draft) (bad_at (1 + length words)))) (sym was ∙ read ∙ ap (draft_of verb 1 words) new)

pub returns-in_err-draft : goal.returns-in_err-draft
returns-in_err-draft c =
    let is : c.from_residual.result ≡ Err c.in_err-draft.field-0.0 = search rules in
    is ∙ by-words c.args.verb _ c.new.result c.read_settings.result (Err c.in_err-draft.field-0.0) c.in_err-draft.was c.read_settings.ensures.value c.new.ensures

pub returns : goal.returns
returns c =
    c.ok_or.ensures.value
    ∙ ap (λ m. ok_or m (bad_at (1 + length c.args.words.now))) c.make.ensures
    ∙ ap (λ n. ok_or (made c.args.verb c.in_ok-draft.draft) (bad_at (1 + n))) (sym (length-map c.args.words.now _))
    ∙ by-words c.args.verb _ c.new.result c.read_settings.result (Ok c.in_ok-draft.draft) c.in_ok-draft.was c.read_settings.ensures.value c.new.ensures
