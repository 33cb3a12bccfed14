-- The lines of a trace as a tree.
use Rattle.std.specs.Prelude.{ℕ, ◌*◌, min, List, [], ◌∷◌, ◌++◌, codes, replicate}
use Rattle.mix_bits.specs.Text.{hexadecimal}
use Rattle.mix_bits.specs.declared.size.Size.{Size}
use Rattle.mix_bits.specs.declared.size.Size.TheVariants.{Zero, One, Two, Four}
use Rattle.proc_info.specs.declared.param.Param.{Param}
use Rattle.proc_info.specs.Signature.{Signature, signature_in}
use Rattle.switch_frame.specs.Sets.{caller_isa, callee_isa}
use Rattle.switch_frame.specs.declared.kind.Kind.{Kind}
use Rattle.call_trace.specs.Names.{set_name}
use Rattle.trace_lines.specs.EventLines.{args_of}
use Rattle.trace_lines.specs.declared.event.Crossing.{Crossing}
use Rattle.trace_lines.specs.declared.event.Event.{Event}
use Rattle.trace_lines.specs.declared.event.Event.TheVariants.{Called, Returned, Asked, Ended}
use Rattle.look_text.specs.Pieces.{joined}

-- a value behind a mark and the word for its size
abbrev pub sized_text : List ℕ → Size → ℕ → List ℕ
sized_text mark Zero v = joined (mark ∷ codes "nothing" ∷ [])
sized_text mark One v = joined (mark ∷ codes "byte " ∷ hexadecimal 2 v ∷ [])
sized_text mark Two v = joined (mark ∷ codes "word " ∷ hexadecimal 4 v ∷ [])
sized_text mark Four v = joined (mark ∷ codes "long " ∷ hexadecimal 8 v ∷ [])

-- arguments, the first one behind a mark
abbrev pub args_text : List ℕ → List Param → List ℕ → List ℕ
args_text mark [] vs = []
args_text mark (p ∷ ps) [] = []
args_text mark (p ∷ ps) (v ∷ vs) = sized_text mark p.size v ++ args_text (codes ", ") ps vs

-- the selector and the arguments of a call
abbrev pub selected_text : Size → List Param → ℕ → List ℕ → List ℕ
selected_text Zero ps selector vs = args_text (codes ": ") ps vs
selected_text One ps selector vs = sized_text (codes ": selector ") One selector ++ args_text (codes ", ") ps vs
selected_text Two ps selector vs = sized_text (codes ": selector ") Two selector ++ args_text (codes ", ") ps vs
selected_text Four ps selector vs = sized_text (codes ": selector ") Four selector ++ args_text (codes ", ") ps vs

abbrev pub values_text : Signature → Crossing → List ℕ
values_text s c = selected_text s.selector s.params c.selector (args_of c)

-- the sets of a call, and the name of its target
abbrev pub way_text : List ℕ → Kind → List ℕ
way_text name kind = joined (set_name (caller_isa kind) ∷ codes " to " ∷ set_name (callee_isa kind) ∷ codes " " ∷ name ∷ [])

-- a call of a routine with a name
abbrev pub called_text : List ℕ → Crossing → List ℕ
called_text name c = way_text name c.kind ++ values_text (signature_in c.info) c

-- an event; what is neither a call nor a return stays as its line is
abbrev pub event_text : List ℕ → List ℕ → Event → List ℕ
event_text name line (Called c) = called_text name c
event_text name line (Returned size value) = sized_text (codes "gave ") size value
event_text name line (Asked slot word answer) = line
event_text name line (Ended end) = line

-- four spaces for each open call, up to 256 of them
abbrev pub indent_text : ℕ → List ℕ
indent_text depth = replicate (4 * min depth 256) 32

-- a line of the tree, with so many open calls around it
unfoldable pub tree_of : ℕ → List ℕ → List ℕ → Event → List ℕ
tree_of depth name line event = indent_text depth ++ event_text name line event ++ codes "\n"
