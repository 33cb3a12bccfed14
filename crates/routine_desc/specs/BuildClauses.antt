-- A descriptor that was built reads back as what was asked for.
use Rattle.std.specs.Prelude.{ℕ, ◌≡◌, List, [], ◌∷◌, Option, Some, None, IsSome, Ok}
use Rattle.big_memory.specs.Memory.{Memory}
use Rattle.proc_info.specs.Signature.{Signature, signature_of}
use Rattle.routine_desc.specs.declared.record.Rec.{Rec}
use Rattle.routine_desc.specs.Layout.{code_at, is_cfm, isa_of}
use Rattle.routine_desc.specs.Read.{desc_of}

-- the records that were asked for
abbrev pub asked_record : ℕ → ℕ → ℕ → Rec
asked_record info isa proc = record { info = info; isa = isa_of isa; flags = 0; target = proc; selector = 0; cfm = is_cfm isa }

abbrev pub asked : ℕ → Option ℕ → ℕ → ℕ → List Rec
asked info None isa proc = asked_record info isa proc ∷ []
asked info (Some m68k) isa proc = asked_record info 0 m68k ∷ (asked_record info isa proc ∷ [])

-- a descriptor that was built is read back as these records, if its procInfo has a signature and its ISA code is one that there is
abbrev pub ReadsBack : Memory → ℕ → ℕ → Option ℕ → ℕ → ℕ → Type 0
ReadsBack m a info m68k isa proc =
    IsSome (code_at isa) → (sig : Signature) → signature_of info ≡ Ok sig → desc_of m a ≡ Ok (asked info m68k isa proc)
