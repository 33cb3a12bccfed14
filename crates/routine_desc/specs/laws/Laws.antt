-- Laws of descriptors, and of the choice among their records.
use Rattle.std.specs.Prelude.{◌≡◌, ◌↔◌, ℕ, ◌+◌, ◌*◌, ◌≤◌, false, List, [], Contains, length, Option, Some, None, Ok}
use Rattle.mix_bits.specs.declared.isa.Isa.{Isa}
use Rattle.big_memory.specs.Lists.{part}
use Rattle.big_memory.specs.Memory.{Memory}
use Rattle.proc_info.specs.Codes.{is_dispatched}
use Rattle.proc_info.specs.Signature.{Signature, signature_in, signature_of}
use Rattle.routine_desc.specs.declared.record.Rec.{Rec}
use Rattle.routine_desc.specs.Read.{desc_of}
use Rattle.routine_desc.specs.Choice.{candidates, choice}

-- a descriptor has one record up to 64
abbrev pub HoldsRecords : Type 0
HoldsRecords = (m : Memory) (a : ℕ) (records : List Rec) → desc_of m a ≡ Ok records → (1 ≤ length records) × (length records ≤ 64)

-- the procInfo of each record in it has a signature
abbrev pub InfosAreSigned : Type 0
InfosAreSigned =
    (m : Memory) (a : ℕ) (records : List Rec) (r : Rec) → desc_of m a ≡ Ok records → Contains records r → signature_of r.info ≡ Ok (signature_in r.info)

-- signatures that are called alike: in one convention, with one selector size, and if there is no selector, they are one
pub record IsCalledLike (s t : Signature) : Type 0 where
  pub conv : s.conv ≡ t.conv
  pub selector : s.selector ≡ t.selector
  pub whole : is_dispatched s.conv ≡ false → s ≡ t

-- any two of its records are called alike
abbrev pub RecordsAreAlike : Type 0
RecordsAreAlike =
    (m : Memory) (a : ℕ) (records : List Rec) (r q : Rec) → desc_of m a ≡ Ok records → Contains records r → Contains records q → IsCalledLike (signature_in r.info) (signature_in q.info)

-- it is read from its bytes alone: a header of 12, and 20 for each record
abbrev pub ReadsItsBytes : Type 0
ReadsItsBytes =
    (m n : Memory) (a : ℕ) (records : List Rec) → desc_of m a ≡ Ok records
    → part a (12 + 20 * length records) n.bytes ≡ part a (12 + 20 * length records) m.bytes → desc_of n a ≡ Ok records

-- the record that is taken is one of the records
abbrev pub TakesARecord : Type 0
TakesARecord = (records : List Rec) (caller : Isa) (selector : Option ℕ) (r : Rec) → choice records caller selector ≡ Some r → Contains records r

-- none is taken exactly where there is no candidate
abbrev pub TakesNone : Type 0
TakesNone = (records : List Rec) (caller : Isa) (selector : Option ℕ) → (choice records caller selector ≡ None) ↔ (candidates records selector ≡ [])
