use Rattle.std.proofs.Common.{rules, sym}
use Rattle.field.specs.Show.{show_integer, fits_integer, show_decimal, fits_decimal}
use Rattle.record.specs.Descriptors.{base_items, base_values, base_line}
use Rattle.record.specs.declared.types.BaseLine.{BaseLine}
use Rattle.record.proofs.Tiled.{base-tiled}
use Rattle.layout.proofs.Ends.{line-end}
use Rattle.draw.proofs.Laying.{EndsIn, long}
use Rattle.draw.proofs.descriptors.write_bases.Goals as goal

ends : (b : BaseLine) → EndsIn base_items (base_values b) 60
unfolding show_integer fits_integer show_decimal fits_decimal
ends b = record { tiles = base-tiled; told = sym (line-end base_items (base_values b) base-tiled) }

pub returns : goal.returns
unfolding base_line
returns c = record { lays = c.lay_ended.ensures _ (long (ends c.args.b)) (λ old new wide met. search rules) }
