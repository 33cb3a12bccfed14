use Rattle.std.proofs.Common.{◌≡◌, ◌*◌, sym, subst}
use Rattle.std.specs.Prelude.{option_copied}
use Rattle.big_memory.specs.Memory.{with_bytes}
use Rattle.mix_image.specs.Fields.{page_bytes}
use Rattle.mix_image.proofs.Filling.{blank-put}
use Rattle.mix_image.proofs.memory.put_page.Goals as goal

pub returns-in-None : goal.returns-in-None
returns-in-None c =
    subst (λ p. c.args.ram.now ≡ with_bytes (1024 * c.args.k) (page_bytes (option_copied p)) c.args.ram.now) (sym c.in-None.is)
    (blank-put 1024 (1024 * c.args.k) c.args.ram.now c.requires.within c.requires.blank)
