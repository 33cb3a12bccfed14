-- Requests that have one text, and that it is read as that request.
use Rattle.std.specs.Prelude.{◌≡◌, ℕ, ◌^◌, ◌<◌, List, ◌∷◌, ◌++◌, codes, Option, Some, None}
use Rattle.gdb_packets.specs.Hex.{number_text}
use Rattle.gdb_requests.specs.Requests.{request_of}
use Rattle.gdb_requests.specs.declared.request.Id.{Id}
use Rattle.gdb_requests.specs.declared.request.Id.TheVariants.{Any, Number}
use Rattle.gdb_requests.specs.declared.request.Point.{Point}
use Rattle.gdb_requests.specs.declared.request.Point.TheVariants.{Software, Hardware, Write}
use Rattle.gdb_requests.specs.declared.request.Thread.{Thread}
use Rattle.gdb_requests.specs.declared.request.Request.{Request}
use Rattle.gdb_requests.specs.declared.request.Request.TheVariants.{NoAcknowledgements, Extended, Reason, SelectForRegisters, SelectForRunning, Description, Registers, Register, Memory, ResumeWords, Continue, Step, BackContinue, BackStep, Insert, Remove, FirstThreads, MoreThreads, CurrentThread, IsAttached, Attach, IsAlive}

abbrev pub pair_text : ℕ → ℕ → List ℕ
pair_text a b = number_text a ++ 44 ∷ number_text b

abbrev pub id_text : Id → List ℕ
id_text Any = codes "-1"
id_text (Number n) = number_text n

abbrev pub thread_text : Thread → List ℕ
thread_text t = 112 ∷ id_text t.process ++ 46 ∷ id_text t.thread

abbrev pub point_digit : Point → ℕ
point_digit Software = 48
point_digit Hardware = 49
point_digit Write = 50

-- the numbers of a request have 32 bits, and those of processes and threads are not 0
abbrev pub IsNumber : ℕ → Type 0
IsNumber n = n < 2 ^ 32

abbrev pub IsId : Id → Type 0
IsId Any = Unit {0}
IsId (Number n) = (0 < n) × IsNumber n

abbrev pub IsThread : Thread → Type 0
IsThread t = IsId t.process × IsId t.thread

abbrev pub HasNumbers : Request → Type 0
HasNumbers (SelectForRegisters t) = IsThread t
HasNumbers (SelectForRunning t) = IsThread t
HasNumbers (IsAlive t) = IsThread t
HasNumbers (IsAttached i) = IsId i
HasNumbers (Attach i) = IsId i
HasNumbers (Register n) = IsNumber n
HasNumbers (Description offset size) = IsNumber offset × IsNumber size
HasNumbers (Memory address size) = IsNumber address × IsNumber size
HasNumbers (Insert point address size) = IsNumber address × IsNumber size
HasNumbers (Remove point address size) = IsNumber address × IsNumber size
HasNumbers _ = Unit {0}

-- the text of a request that has one
abbrev pub text_of : Request → Option (List ℕ)
text_of NoAcknowledgements = Some (codes "QStartNoAckMode")
text_of Extended = Some (codes "!")
text_of Reason = Some (codes "?")
text_of (SelectForRegisters t) = Some (codes "Hg" ++ thread_text t)
text_of (SelectForRunning t) = Some (codes "Hc" ++ thread_text t)
text_of (Description offset size) = Some (codes "qXfer:features:read:target.xml:" ++ pair_text offset size)
text_of Registers = Some (codes "g")
text_of (Register n) = Some (codes "p" ++ number_text n)
text_of (Memory address size) = Some (codes "m" ++ pair_text address size)
text_of ResumeWords = Some (codes "vCont?")
text_of Continue = Some (codes "c")
text_of Step = Some (codes "s")
text_of BackContinue = Some (codes "bc")
text_of BackStep = Some (codes "bs")
text_of (Insert point address size) = Some (codes "Z" ++ point_digit point ∷ 44 ∷ pair_text address size)
text_of (Remove point address size) = Some (codes "z" ++ point_digit point ∷ 44 ∷ pair_text address size)
text_of FirstThreads = Some (codes "qfThreadInfo")
text_of MoreThreads = Some (codes "qsThreadInfo")
text_of CurrentThread = Some (codes "qC")
text_of (IsAttached i) = Some (codes "qAttached:" ++ id_text i)
text_of (Attach i) = Some (codes "vAttach;" ++ id_text i)
text_of (IsAlive t) = Some (codes "T" ++ thread_text t)
text_of _ = None

-- the text of a request is read as that request
abbrev pub TextsReadBack : Type 0
TextsReadBack = (r : Request) (text : List ℕ) → HasNumbers r → text_of r ≡ Some text → request_of text ≡ r
