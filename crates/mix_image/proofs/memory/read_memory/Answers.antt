use Rattle.std.proofs.Common.{◌≡◌, ◌+◌, ◌*◌, ◌<◌, ◌≤◌, nat_le, length, inr, arith, sym, subst}
use Rattle.std.specs.Prelude.{option_copied}
use Rattle.std.proofs.lemmas.Result.{err_from_is_err_and}
use Rattle.std.proofs.lemmas.Bool.Decides.{nat_tests}
use Rattle.mix_image.specs.declared.error.ImageError.TheVariants.{Extra}
use Rattle.mix_image.proofs.Binds.{passed, refused}
use Rattle.mix_image.specs.Fields.{page_size}
use Rattle.mix_image.proofs.Pagings.{size-most}
use Rattle.mix_image.proofs.Filling.{IsReadTo, read-all, read-extra, read-more, read-none, read-stops}
use Rattle.mix_image.proofs.memory.read_memory.Goals as goal

pub pages-init : goal.pages-init
pages-init c = record { read = read-none c.args.bytes.now c.args.at c.args.kib c.in_ok-ram.ram c.requires.place c.in_ok-ram.ensures.zeros; near = omega arith }

pub returns-in_err-page : goal.returns-in_err-page
returns-in_err-page c =
    let p = err_from_is_err_and c.from_residual-in_err-page.result c.from_residual-in_err-page.ensures.1 in
    let less : c.pages.k < c.args.kib = omega arith in
    rw (p.1, p.2) (inr (read-stops c.args.bytes.now c.args.at c.args.kib c.pages.k c.pages.end c.pages.ram c.in_err-page.field-0.0 c.pages.invariant.read less c.in_err-page.ensures.exact))

pub pages-preserved : goal.pages-preserved
pages-preserved c =
    let less : c.pages.k < c.args.kib = omega arith in
    let size : c.page_size-end.result ≡ page_size (option_copied c.in_ok-page.page) = c.page_size-end.ensures in
    let near : c.pages.end ≤ c.args.at + 1025 * c.pages.k = c.pages.invariant.near in
    record {
      read = subst (λ n. IsReadTo c.args.bytes.now c.args.at c.args.kib (c.pages.k + 1) (c.pages.end + n) c.put_page.new.ram) (sym c.page_size-end.ensures)
          (read-more c.args.bytes.now c.args.at c.args.kib c.pages.k c.pages.end c.pages.ram c.put_page.new.ram (option_copied c.in_ok-page.page) c.pages.invariant.read less
          c.in_ok-page.ensures.exact c.in_ok-page.ensures.len c.in_ok-page.ensures.within c.put_page.ensures);
      near = omega (arith, near, size, size-most (option_copied c.in_ok-page.page));
    }

pub returns-in_err-test_end : goal.returns-in_err-test_end
returns-in_err-test_end c =
    let p = err_from_is_err_and c.from_residual-in_err-test_end.result c.from_residual-in_err-test_end.ensures.1 in
    let refused = refused (nat_le (length c.args.bytes.now) c.pages.end) c.in_err-test_end.field-0.0 (Extra c.pages.end) (record {}) c.in_err-test_end.ensures in
    let more : c.pages.end < length c.args.bytes.now = grind (arith, nat_tests, refused.0) in
    let last : c.pages.k ≡ c.args.kib = omega arith in
    rw (p.1, p.2, refused.1) (inr (read-extra c.args.bytes.now c.args.at c.args.kib c.pages.end c.pages.ram (subst (λ k. IsReadTo c.args.bytes.now c.args.at c.args.kib k c.pages.end c.pages.ram) last c.pages.invariant.read) more))

pub returns : goal.returns
returns c =
    let passed = passed (nat_le (length c.args.bytes.now) c.pages.end) (Extra c.pages.end) (record {}) (record {}) (sym c.in_ok-test_end.ensures) in
    let end : length c.args.bytes.now ≤ c.pages.end = grind (arith, nat_tests, passed.0) in
    let last : c.pages.k ≡ c.args.kib = omega arith in
    read-all c.args.bytes.now c.args.at c.args.kib c.pages.end c.pages.ram (subst (λ k. IsReadTo c.args.bytes.now c.args.at c.args.kib k c.pages.end c.pages.ram) last c.pages.invariant.read) end
