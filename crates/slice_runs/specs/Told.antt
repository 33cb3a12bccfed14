-- A text that stands in a buffer, or want of memory for it.
use Rattle.std.specs.Prelude.{◌≡◌, ℕ, List}
use Rattle.slice_parts.specs.Buffers.{Buffer, HoldsFront, IsLeft}

pub data Tells (text : List ℕ) (out : Buffer) (result : ℕ) : Type 0 where
  -- there was no memory for the text
  no_memory : result ≡ 9 → IsLeft out → Tells text out result
  told : result ≡ 0 → HoldsFront text out → Tells text out result
