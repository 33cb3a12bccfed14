-- The command that the user gives behind `monitor`: what it is, a target's own.
-- Source: GDB manual, appendix 'GDB Remote Serial Protocol', section 'General Query Packets', qRcmd.
use Rattle.std.specs.Prelude.{ℕ, List, [], drop, Option, Some, None}
use Rattle.gdb_packets.specs.Hex.{bytes_said}

abbrev pub text_in : Option (List ℕ) → List ℕ
text_in None = []
text_in (Some text) = text

-- of a packet's data, which has it in digits behind six bytes; nothing where these are no digits
unfoldable pub command_of : List ℕ → List ℕ
command_of bytes = text_in (bytes_said (drop 6 bytes))
