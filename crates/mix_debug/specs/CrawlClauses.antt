-- The text of `where`.
use Rattle.std.specs.Prelude.{ℕ, List, ◌++◌}
use Rattle.mixed_machine.specs.Machine.{callers_of}
use Rattle.mix_engine.specs.declared.machine.Machine.{Machine}
use Rattle.mix_debug.specs.Crawl.{here_line, caller_lines}

unfoldable pub crawl_of : Machine → List ℕ
crawl_of m = here_line m.active ++ caller_lines 1 (callers_of m.body)
