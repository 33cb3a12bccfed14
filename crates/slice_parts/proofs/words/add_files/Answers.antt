-- The words of a fork and a container.
use Rattle.std.proofs.Common.{◌≡◌, ℕ, ◌++◌, map, OnOk, subst, sym}
use Rattle.std.specs.String.{string_bytes}
use Rattle.slice_parts.specs.Words.{file_words}
use Rattle.slice_parts.proofs.words.add_files.Goals as goal

pub returns-in-3 : goal.returns-in-3
returns-in-3 c =
    let P : ℕ → Type 0 = λ kind. OnOk c.add_both.result (map string_bytes c.add_both.new.words.items ≡ map string_bytes c.args.words.now.items ++ file_words kind) in
    subst P (sym c.in-3.is) c.add_both.ensures
