-- What `get`, `place` and `free` answer, and what they leave.
use Rattle.std.specs.Prelude.{ℕ, zero, suc, ◌+◌, ◌-◌, ◌%◌, Bool, ◌==◌, ◌&&◌, ◌||◌, not, nat_lt, nat_le, if◌then◌else◌, Option, Some, None, List, ◌∷◌, ◌++◌, length, filter}
use Rattle.std.specs.List.{list_all, list_any}
use Rattle.host_heap.specs.declared.block.Block.{Block}
use Rattle.host_heap.specs.Space.{Space, block_limit, rounded}

-- `IsApart` and `HasRoom` as tests
abbrev pub is_apart : ℕ → ℕ → Block → Bool
is_apart size address block =
    nat_le (address + size) block.address || nat_le (block.address + block.size) address

unfoldable pub fits : Space → ℕ → ℕ → Bool
fits s size address =
    nat_le s.low address && nat_le (address + size) s.high && list_all (is_apart size address) s.blocks

-- whether a block of this size may stand at this address beside those that stand
abbrev pub can_place : Space → ℕ → ℕ → Bool
can_place s size address =
    nat_lt (length s.blocks) block_limit && (size % 8 == 0 && (nat_le 8 size && (address % 8 == 0 && fits s size address)))

-- whether each block ends at or before an address
abbrev pub is_behind : List Block → ℕ → Bool
is_behind blocks address = list_all (λ b. nat_le (b.address + b.size) address) blocks

-- whether a block of this size may stand at this address behind all others
abbrev pub can_append : Space → ℕ → ℕ → Bool
can_append s size address = is_behind s.blocks address && can_place s size address

-- the first of `count` numbers, from `start` on, that passes the test
unfoldable pub first_from : (ℕ → Bool) → ℕ → ℕ → Option ℕ
first_from test start zero = None
first_from test start (suc count) = if test start then Some start else first_from test (suc start) count

-- the lowest address with room, as a value
unfoldable pub lowest_fit : Space → ℕ → Option ℕ
lowest_fit s size = first_from (fits s size) s.low (s.high + 1 - s.low)

-- what `get` answers, as a value
unfoldable pub place_for : Space → ℕ → Option ℕ
place_for s size = if nat_lt (length s.blocks) block_limit then lowest_fit s (rounded size) else None

-- the blocks below the new one, the new one, and the blocks above it
abbrev pub with_block : List Block → Block → List Block
with_block blocks new =
    filter (λ b. nat_lt b.address new.address) blocks ++ new ∷ filter (λ b. nat_lt new.address b.address) blocks

-- the heap with a block of this size at this address
abbrev pub placed : Space → ℕ → ℕ → Space
placed s size address = record s { blocks = with_block s.blocks (record { address = address; size = size }) }

abbrev pub placed_where : Space → ℕ → Option ℕ → Space
placed_where s size None = s
placed_where s size (Some address) = placed s size address

-- what `get` leaves
abbrev pub taken : Space → ℕ → Space
taken s size = placed_where s (rounded size) (place_for s size)

abbrev pub begins_at : List Block → ℕ → Bool
begins_at blocks address = list_any (λ b. b.address == address) blocks

-- each block but the one that begins at the address
abbrev pub without : List Block → ℕ → List Block
without blocks address = filter (λ b. not (b.address == address)) blocks

-- what `free` leaves
abbrev pub freed : Space → ℕ → Space
freed s address = record s { blocks = without s.blocks address }
