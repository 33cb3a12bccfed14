-- The map of a fork: the type list, each type's references, and the resources that they name (More
-- Macintosh Toolbox, 'Resource Manager'). The order of the tests is this project's own.
--
-- The type list is a word, the count of the types less one, where $FFFF says none. An entry of 8 bytes
-- follows for each: the type, a word with the count of its references less one, and a word with the
-- place of its first reference, counted from the type list. A reference has 12 bytes: the id, a word
-- for the name's place, a byte of attributes, three bytes with the place of the resource, counted from
-- the data's start, and four bytes that the file leaves unused. At its place in the data a resource has
-- a long, its length, and then its bytes. In the attributes the bit of value 1 says that the bytes are
-- compressed.
use Rattle.std.specs.Prelude.{ℕ, ◌+◌, ◌*◌, ◌||◌, nat_lt, if◌then◌else◌, List, slice_range, Result, Ok, Err, ◌%◌, ◌==◌, [], slice_index}
use Rattle.rsrc_fork.specs.declared.error.RsrcError.{RsrcError}
use Rattle.rsrc_fork.specs.declared.error.RsrcError.TheVariants.{BadOffset, Compressed}
use Rattle.rsrc_fork.specs.declared.header.Areas.{Areas}
use Rattle.mix_bits.specs.Fields.{three_at, long_at, word_at}
use Rattle.rsrc_fork.specs.Header.{areas_of, list_of}
use Rattle.mix_bits.specs.Results.{◌>>=◌}
use Rattle.rsrc_fork.specs.Resources.{Resource, named, with_resource}
use Rattle.byteorder.specs.Endian.{twos_complement}
use Rattle.rsrc_fork.specs.Outcome.{each_below}

-- the bytes of the resource whose reference stands at a place
abbrev pub data_at : List ℕ → Areas → ℕ → Result (List ℕ) RsrcError
data_at bytes areas place =
    let start = areas.data_start + three_at bytes (place + 5) in
    let end = start + 4 + long_at bytes start in
    if nat_lt areas.map_end (place + 12) || nat_lt areas.data_end (start + 4) || nat_lt areas.data_end end
    then Err (BadOffset place)
    else Ok (slice_range bytes (start + 4) end)

-- the resources before a reference, with the one that it names as the last
abbrev pub with_reference : List ℕ → Areas → ℕ → List Resource → ℕ → Result (List Resource) RsrcError
with_reference bytes areas kind before place =
    let name = named kind (twos_complement 2 (word_at bytes place)) in
    data_at bytes areas place >>= λ piece.
    if slice_index bytes (place + 4) % 2 == 1 then Err (Compressed name.kind name.id) else with_resource before name piece

-- the resources before a type of the list, with those that its references name
abbrev pub with_type : List ℕ → Areas → ℕ → List Resource → ℕ → Result (List Resource) RsrcError
with_type bytes areas list before k =
    let place = list + 2 + 8 * k in
    let first = list + word_at bytes (place + 6) in
    let count = word_at bytes (place + 4) + 1 in
    if nat_lt areas.map_end (place + 8) then Err (BadOffset place)
    else each_below (λ made j. with_reference bytes areas (long_at bytes place) made (first + 12 * j)) before count

-- the resources of a fork, or its first refusal in the order of the type list
abbrev pub resources_of : List ℕ → Result (List Resource) RsrcError
resources_of bytes =
    areas_of bytes >>= λ areas. list_of bytes areas >>= λ list.
    each_below (with_type bytes areas list) [] ((word_at bytes list + 1) % 65536)
