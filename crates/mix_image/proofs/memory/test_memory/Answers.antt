use Rattle.std.proofs.Common.{◌≡◌, ◌+◌, ◌*◌, ◌<◌, ◌≤◌, arith, ap, sym, subst, ◌∙◌}
use Rattle.std.specs.Prelude.{option_copied}
use Rattle.std.proofs.lemmas.Result.{err_from_is_err_and}
use Rattle.mix_image.specs.Fields.{page_size}
use Rattle.mix_image.proofs.Pagings.{size-most}
use Rattle.mix_image.specs.inner.Testing.{outcome}
use Rattle.mix_image.proofs.Testing.{ArePagesTo, pages-more, pages-none, pages-outcome, pages-refused}
use Rattle.mix_image.proofs.memory.test_memory.Goals as goal

pub tested-init : goal.tested-init
tested-init c = record { pages = pages-none c.args.bytes.now c.args.at c.requires.place; near = omega arith }

pub returns-in_err-read_page : goal.returns-in_err-read_page
returns-in_err-read_page c =
    let p = err_from_is_err_and c.from_residual.result c.from_residual.ensures.1 in
    let less : c.tested.k < c.args.kib = omega arith in
    rw (p.1, p.2) (sym (ap outcome (pages-refused c.args.bytes.now c.args.at c.args.kib c.tested.k c.tested.end c.in_err-read_page.field-0.0 c.tested.invariant.pages less c.in_err-read_page.ensures.exact)))

pub tested-preserved : goal.tested-preserved
tested-preserved c =
    let size : c.page_size.result ≡ page_size (option_copied c.in_ok-read_page.field-0) = c.page_size.ensures in
    let near : c.tested.end ≤ c.args.at + 1025 * c.tested.k = c.tested.invariant.near in
    record {
      pages = subst (λ n. ArePagesTo c.args.bytes.now c.args.at (c.tested.k + 1) (c.tested.end + n)) (sym c.page_size.ensures)
          (pages-more c.args.bytes.now c.args.at c.tested.k c.tested.end (option_copied c.in_ok-read_page.field-0) c.tested.invariant.pages c.in_ok-read_page.ensures.exact c.in_ok-read_page.ensures.within);
      near = omega (arith, near, size, size-most (option_copied c.in_ok-read_page.field-0));
    }

pub returns : goal.returns
returns c =
    let last : c.tested.k ≡ c.args.kib = omega arith in
    c.test_end.ensures ∙ pages-outcome c.args.bytes.now c.args.at c.args.kib c.tested.end (subst (λ k. ArePagesTo c.args.bytes.now c.args.at k c.tested.end) last c.tested.invariant.pages)
