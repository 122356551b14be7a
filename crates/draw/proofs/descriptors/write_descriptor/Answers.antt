use Rattle.std.proofs.Common.{rules, sym}
use Rattle.record.specs.Descriptors.{descriptor_items, descriptor_values, descriptor_line}
use Rattle.record.specs.declared.types.Descriptor.{Descriptor}
use Rattle.record.proofs.Tiled.{descriptor-tiled}
use Rattle.layout.proofs.Ends.{line-end}
use Rattle.draw.proofs.Laying.{EndsIn, long}
use Rattle.draw.proofs.descriptors.write_descriptor.Goals as goal

ends : (d : Descriptor) → EndsIn descriptor_items (descriptor_values d) 60
ends d = record { tiles = descriptor-tiled; told = sym (line-end descriptor_items (descriptor_values d) descriptor-tiled) }

pub returns : goal.returns
unfolding descriptor_line
returns c = record { lays = c.lay_ended.ensures _ (long (ends c.args.d)) (λ old new wide met. search rules) }
