-- Packets that begin with `q`, `Q` or `v`, behind that letter.
-- Source: GDB manual, appendix 'GDB Remote Serial Protocol', sections 'Packets' and 'General Query Packets'.
use Rattle.std.specs.Prelude.{ℕ, ◌||◌, Bool, false, List, [], ◌∷◌, drop, codes, bytes_eq, Option, Some, None, if◌then◌else◌}
use Rattle.gdb_requests.specs.Actions.{resume_said}
use Rattle.gdb_requests.specs.Parts.{begins, pair_said}
use Rattle.gdb_requests.specs.Threads.{id_said}
use Rattle.gdb_requests.specs.declared.request.Features.{Features}
use Rattle.gdb_requests.specs.declared.request.Id.{Id}
use Rattle.gdb_requests.specs.declared.request.Id.TheVariants.{Any}
use Rattle.gdb_requests.specs.declared.request.Request.{Request}
use Rattle.gdb_requests.specs.declared.request.Request.TheVariants.{Supported, NoAcknowledgements, Description, ResumeWords, FirstThreads, MoreThreads, CurrentThread, IsAttached, Attach, Monitor, Kill, Unknown}

-- whether a word begins somewhere in a text
unfoldable pub has_word : List ℕ → List ℕ → Bool
has_word word [] = false
has_word word (b ∷ bs) = begins word (b ∷ bs) || has_word word bs

-- what gdb knows of, by the features that it says
abbrev pub features_said : List ℕ → Features
features_said text =
    record {
      processes = has_word (codes "multiprocess+") text;
      breakpoints = has_word (codes "swbreak+") text;
    }

abbrev pub range_of : Option (ℕ × ℕ) → Request
range_of None = Unknown
range_of (Some (offset, size)) = Description offset size

unfoldable pub range_said : List ℕ → Request
range_said text = range_of (pair_said text)

abbrev pub of_process : Option Id → Request
of_process None = Unknown
of_process (Some id) = IsAttached id

abbrev pub attaching : Option Id → Request
attaching None = Unknown
attaching (Some id) = Attach id

abbrev pub killing : Option Id → Request
killing None = Unknown
killing (Some id) = Kill id

unfoldable pub general_said : List ℕ → Request
general_said text =
    if bytes_eq text (codes "fThreadInfo") then FirstThreads
    else (if bytes_eq text (codes "sThreadInfo") then MoreThreads
    else (if bytes_eq text (codes "C") then CurrentThread
    else (if bytes_eq text (codes "Attached") then IsAttached Any else Unknown)))

unfoldable pub query_said : List ℕ → Request
query_said text =
    if begins (codes "Supported") text then Supported (features_said text)
    else (if begins (codes "Xfer:features:read:target.xml:") text then range_said (drop 30 text)
    else (if begins (codes "Attached:") text then of_process (id_said (drop 9 text))
    else (if begins (codes "Rcmd,") text then Monitor else general_said text)))

unfoldable pub setting_said : List ℕ → Request
setting_said text = if bytes_eq text (codes "StartNoAckMode") then NoAcknowledgements else Unknown

unfoldable pub verbose_said : List ℕ → Request
verbose_said text =
    if begins (codes "Cont;") text then resume_said (drop 5 text)
    else (if begins (codes "Attach;") text then attaching (id_said (drop 7 text))
    else (if begins (codes "Kill;") text then killing (id_said (drop 5 text))
    else (if bytes_eq text (codes "Cont?") then ResumeWords else Unknown)))
