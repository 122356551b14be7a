-- The file ends behind its first EOF line.
use Rattle.std.proofs.Common.{◌≡◌, ◌+◌, ap, sym, ◌∙◌, arith}
use Rattle.header.specs.Versions.{rules_in}
use Rattle.scan_laws.proofs.Used.{accepted-front}
use Rattle.divide.specs.Dividing.{end_of}
use Rattle.divide.proofs.Ending.{file-ends}
use Rattle.divide.proofs.file_length.Goals as goal

-- the place after the line that was found is the file's end
found : (c : goal.After-line_end) → c.line_end.result + 1 ≡ c.requires.0.end
found c =
    let bytes = c.args.bytes.now in
    rw (c.line_end.ensures.result, c.line_begins-last.ensures.result, c.told_by.ensures.result) (file-ends (rules_in bytes) bytes c.requires.0 c.requires.1)

pub overflow_add-result : goal.overflow_add-result
overflow_add-result c =
    let bytes = c.args.bytes.now in
    omega (arith, found c, (accepted-front (rules_in bytes) bytes c.requires.0 c.requires.1).within)

pub returns : goal.returns
returns c = found c ∙ ap end_of (sym c.requires.1)
