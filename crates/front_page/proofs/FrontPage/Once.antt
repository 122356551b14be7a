-- SAID ONCE. What holds for a number field holds at every width and number of places; for a line, of every layout; for a file, by the rules of every
-- version: a number that is shown reads back, a clock too, a line that is shown reads back, a line that is put in place over the bytes up to its end,
-- whatever stood there, is the line that is shown without its trailing blanks, and the machine accepts exactly the plain files. Where the bounds of a
-- version lie within those of another with the same letter, its valid tables and its files are those of the other too; form and table depend on the
-- letter alone.
pub use Rattle.field.proofs.Back.{whole_back, signed_back, exponent-back, decimal-back}
pub use Rattle.field.proofs.ClockBack.{clock-back}
pub use Rattle.layout.proofs.Layouts.{reads-back}
pub use Rattle.layout.proofs.Inking.{inked-line}
pub use Rattle.scan_laws.proofs.Files.{accepts-exactly}
pub use Rattle.canon_laws.proofs.Wider.{wider}
pub use Rattle.canon_laws.proofs.WiderFiles.{front-wider, file-wider}
pub use Rattle.canon_laws.proofs.SameForm.{form-letter, table-letter}
