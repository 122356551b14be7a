-- Line 1 says what must stand after it.
use Rattle.machine.proofs.next.after_line.Goals as goal

pub returns-in-First : goal.returns-in-First
returns-in-First c = rw (c.in-First.is, c.after_first.ensures, c.read_first.ensures.result)
