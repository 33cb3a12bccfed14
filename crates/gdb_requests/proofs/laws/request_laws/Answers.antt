use Rattle.gdb_requests.proofs.Texts.{texts_read_back}
use Rattle.gdb_requests.proofs.laws.request_laws.Goals as goal

pub returns : goal.returns
returns c = texts_read_back
