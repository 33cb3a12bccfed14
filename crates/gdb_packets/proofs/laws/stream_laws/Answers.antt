use Rattle.gdb_packets.proofs.Agreement.{decoder_tells}
use Rattle.gdb_packets.proofs.Streams.{packets_tell, pieces_join, reads_back}
use Rattle.gdb_packets.proofs.laws.stream_laws.Goals as goal

pub returns : goal.returns
returns c = record { pieces = pieces_join; packets = packets_tell; back = reads_back; decoder = decoder_tells }
