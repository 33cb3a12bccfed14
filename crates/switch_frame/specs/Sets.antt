-- The two instruction sets, and the calls that go from one into another.
use Rattle.std.specs.Prelude.{ℕ, ◌==◌, if◌then◌else◌, Option, Some, None, unwrap_or}
use Rattle.mix_bits.specs.declared.isa.Isa.{Isa}
use Rattle.mix_bits.specs.declared.isa.Isa.TheVariants.{M68, Ppc}
use Rattle.switch_frame.specs.declared.kind.Kind.{Kind}
use Rattle.switch_frame.specs.declared.kind.Kind.TheVariants.{M68ToPpc, PpcToM68, PpcToPpc, M68ToM68}

-- the instruction set of the caller, and that of the callee
abbrev pub caller_isa : Kind → Isa
caller_isa M68ToPpc = M68
caller_isa M68ToM68 = M68
caller_isa _ = Ppc

abbrev pub callee_isa : Kind → Isa
callee_isa PpcToM68 = M68
callee_isa M68ToM68 = M68
callee_isa _ = Ppc

-- the kind of a call from one set into another
abbrev pub kind_of : Isa → Isa → Kind
kind_of M68 M68 = M68ToM68
kind_of M68 Ppc = M68ToPpc
kind_of Ppc M68 = PpcToM68
kind_of Ppc Ppc = PpcToPpc

-- the number of a kind in a frame, and the kind of a number, if it is that of one
abbrev pub kind_code : Kind → ℕ
kind_code M68ToPpc = 1
kind_code PpcToM68 = 2
kind_code PpcToPpc = 3
kind_code M68ToM68 = 4

abbrev pub kind_at : ℕ → Option Kind
kind_at code =
    if code == 1 then Some M68ToPpc else (if code == 2 then Some PpcToM68 else (if code == 3 then Some PpcToPpc else (if code == 4 then Some M68ToM68 else None)))

-- the kind that a frame's number tells. A live frame has the number of one; for other numbers any kind does
abbrev pub kind_told : ℕ → Kind
kind_told code = unwrap_or (kind_at code) M68ToPpc

-- how many bytes the frame of a caller of this set has
abbrev pub frame_size : Isa → ℕ
frame_size M68 = 112
frame_size Ppc = 192
