use Rattle.gdb_packets.proofs.Digits.{reads_bytes, reads_digits, reads_memory, reads_numbers, reads_registers}
use Rattle.gdb_packets.proofs.laws.hexadecimal_laws.Goals as goal

pub returns : goal.returns
returns c = record { digits = reads_digits; bytes = reads_bytes; memory = reads_memory; registers = reads_registers; numbers = reads_numbers }
