-- Pattern data: instructions that each write a piece of a section (Inside Macintosh: Mac OS Runtime
-- Architectures, chapter "PEF Structure").
--
-- An instruction begins with a byte: the high three bits are its opcode, the low five its count, where
-- 0 says that the count follows as a number. A number is given in groups of seven bits, the most
-- significant first; all but the last have their top bit set.
use Rattle.std.specs.Prelude.{ℕ, zero, suc, ◌+◌, ◌-◌, ◌*◌, ◌%◌, ◌^◌, ◌==◌, nat_lt, nat_le, if◌then◌else◌, List, [], ◌∷◌, ◌++◌, length, take, drop, replicate, Option, Some, None, ◌/◌}
use Rattle.pef_reloc.specs.declared.error.RelocError.{RelocError}
use Rattle.pef_reloc.specs.declared.error.RelocError.TheVariants.{Pattern}
use Rattle.pef_reloc.specs.Lists.{times}
use Rattle.pef_reloc.specs.Reads.{Read}
use Rattle.pef_reloc.specs.PatternOperator.{◌>>=◌}

abbrev pub with_rest : {X : Type 0} → X → List ℕ → Read X
with_rest value rest = record { value = value; rest = rest }

-- a number of at most 32 bits, after groups that make `value`
abbrev pub number_after : ℕ → List ℕ → Option (Read ℕ)
number_after value [] = None
number_after value (group ∷ rest) =
    let number = value * 128 + group % 128 in
    if nat_lt group 128
    then (if nat_lt number (2 ^ 32) then Some (with_rest number rest) else None)
    else number_after number rest

abbrev pub count_in : ℕ → List ℕ → Option (Read ℕ)
count_in byte bytes = if byte % 32 == 0 then number_after 0 bytes else Some (with_rest (byte % 32) bytes)

-- the first n bytes
abbrev pub bytes_in : ℕ → List ℕ → Option (Read (List ℕ))
bytes_in n bytes = if nat_le n (length bytes) then Some (with_rest (take n bytes) (drop n bytes)) else None

-- so many parts of a size, each followed by the common block
abbrev pub followed : List ℕ → ℕ → ℕ → List ℕ → List ℕ
followed common size zero parts = []
followed common size (suc n) parts = take size parts ++ (common ++ followed common size n (drop size parts))

-- a block that is written once more than a number says
abbrev pub repeated_in : ℕ → List ℕ → Option (Read (List ℕ))
repeated_in count bytes =
    number_after 0 bytes >>= λ further behind. bytes_in count behind >>= λ block rest.
    Some (with_rest (times (suc further) block) rest)

-- the parts of an instruction whose common block is known
abbrev pub parts_in : List ℕ → ℕ → ℕ → List ℕ → Option (Read (List ℕ))
parts_in common size n bytes =
    bytes_in (n * size) bytes >>= λ parts rest. Some (with_rest (common ++ followed common size n parts) rest)

-- a common block that stands before the parts
abbrev pub mixed_in : ℕ → List ℕ → Option (Read (List ℕ))
mixed_in count bytes =
    number_after 0 bytes >>= λ size behind. number_after 0 behind >>= λ n blocks.
    bytes_in count blocks >>= λ common rest. parts_in common size n rest

-- a common block of zeros, which does not stand there
abbrev pub mixed_zeros_in : ℕ → List ℕ → Option (Read (List ℕ))
mixed_zeros_in count bytes =
    number_after 0 bytes >>= λ size behind. number_after 0 behind >>= λ n rest. parts_in (replicate count 0) size n rest

abbrev pub opcode_in : ℕ → ℕ → List ℕ → Option (Read (List ℕ))
opcode_in opcode count bytes =
    if opcode == 0 then Some (with_rest (replicate count 0) bytes)
    else (if opcode == 1 then bytes_in count bytes
    else (if opcode == 2 then repeated_in count bytes
    else (if opcode == 3 then mixed_in count bytes
    else (if opcode == 4 then mixed_zeros_in count bytes
    else None))))

-- what was written, and why no more
pub record Unpacked : Type 0 where
  pub written : List ℕ
  pub refusal : Option RelocError

abbrev pub refused : ℕ → Unpacked
refused place = record { written = []; refusal = Some (Pattern place) }

-- a piece, if there is room for it, and what follows
abbrev pub placed : ℕ → ℕ → Option (Read (List ℕ)) → (List ℕ → ℕ → Unpacked) → Unpacked
placed place room None follow = refused place
placed place room (Some read) follow =
    let later = follow read.rest (room - length read.value) in
    if nat_le (length read.value) room then record later { written = read.value ++ later.written } else refused place

-- the pieces of at most n instructions, which stand at the end of pattern data of a length, one after the other
abbrev pub unpacked_by : ℕ → ℕ → List ℕ → ℕ → Unpacked
unpacked_by (suc n) len (byte ∷ bytes) room =
    let piece = count_in byte bytes >>= λ count rest. opcode_in (byte / 32) count rest in
    placed (len - length (byte ∷ bytes)) room piece (unpacked_by n len)
unpacked_by _ len _ room = if room == 0 then record { written = []; refusal = None } else refused len

-- what pattern data writes into a room of so many bytes: an instruction takes a byte at least
abbrev pub unpacked : List ℕ → ℕ → Unpacked
unpacked bytes room = unpacked_by (length bytes) (length bytes) bytes room
