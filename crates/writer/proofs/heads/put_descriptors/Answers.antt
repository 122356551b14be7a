use Rattle.std.proofs.Common.{[], ◌∷◌, arith}
use Rattle.record.specs.Descriptors.{descriptor_line, character_items, base_line, float_items, integer_items, fixed_line}
use Rattle.canon.specs.Canonical.{descriptor_shown, bases_shown, descriptor_lines}
use Rattle.writer.proofs.Laying.{laying-first, laying-alone, laying-within, laying-fits, laying-room, laying-more, laying-end, one_line}
use Rattle.writer.proofs.heads.put_descriptors.Goals as goal

pub slice_bounds-write_characters-count : goal.slice_bounds-write_characters-count
unfolding descriptor_lines descriptor_shown bases_shown
slice_bounds-write_characters-count c =
    let h = c.args.h in
    let first = descriptor_line (descriptor_shown h) in
    let characters = fixed_line character_items in
    let bases = base_line (bases_shown h) in
    let zeros = fixed_line float_items ∷ fixed_line integer_items ∷ fixed_line integer_items ∷ [] in
    let s1 = laying-first (first ∷ []) (characters ∷ bases ∷ zeros) c.requires (one_line first c.write_descriptor-at.ensures.lays) in
    laying-within s1

pub slice_bounds-write_characters-start : goal.slice_bounds-write_characters-start
unfolding descriptor_lines descriptor_shown bases_shown
slice_bounds-write_characters-start c =
    let h = c.args.h in
    let first = descriptor_line (descriptor_shown h) in
    let characters = fixed_line character_items in
    let bases = base_line (bases_shown h) in
    let zeros = fixed_line float_items ∷ fixed_line integer_items ∷ fixed_line integer_items ∷ [] in
    let s1 = laying-first (first ∷ []) (characters ∷ bases ∷ zeros) c.requires (one_line first c.write_descriptor-at.ensures.lays) in
    laying-within s1

pub overflow_add-at : goal.overflow_add-at
unfolding descriptor_lines descriptor_shown bases_shown
overflow_add-at c =
    let h = c.args.h in
    let first = descriptor_line (descriptor_shown h) in
    let characters = fixed_line character_items in
    let bases = base_line (bases_shown h) in
    let zeros = fixed_line float_items ∷ fixed_line integer_items ∷ fixed_line integer_items ∷ [] in
    let s1 = laying-first (first ∷ []) (characters ∷ bases ∷ zeros) c.requires (one_line first c.write_descriptor-at.ensures.lays) in
    let s2 = laying-more (characters ∷ []) (bases ∷ zeros) s1 (one_line characters c.write_characters-at.ensures.lays) in
    omega (arith, c.well_formed, laying-fits s2)

pub slice_bounds-write_bases-count : goal.slice_bounds-write_bases-count
unfolding descriptor_lines descriptor_shown bases_shown
slice_bounds-write_bases-count c =
    let h = c.args.h in
    let first = descriptor_line (descriptor_shown h) in
    let characters = fixed_line character_items in
    let bases = base_line (bases_shown h) in
    let zeros = fixed_line float_items ∷ fixed_line integer_items ∷ fixed_line integer_items ∷ [] in
    let s1 = laying-first (first ∷ []) (characters ∷ bases ∷ zeros) c.requires (one_line first c.write_descriptor-at.ensures.lays) in
    let s2 = laying-more (characters ∷ []) (bases ∷ zeros) s1 (one_line characters c.write_characters-at.ensures.lays) in
    laying-within s2

pub slice_bounds-write_bases-start : goal.slice_bounds-write_bases-start
unfolding descriptor_lines descriptor_shown bases_shown
slice_bounds-write_bases-start c =
    let h = c.args.h in
    let first = descriptor_line (descriptor_shown h) in
    let characters = fixed_line character_items in
    let bases = base_line (bases_shown h) in
    let zeros = fixed_line float_items ∷ fixed_line integer_items ∷ fixed_line integer_items ∷ [] in
    let s1 = laying-first (first ∷ []) (characters ∷ bases ∷ zeros) c.requires (one_line first c.write_descriptor-at.ensures.lays) in
    let s2 = laying-more (characters ∷ []) (bases ∷ zeros) s1 (one_line characters c.write_characters-at.ensures.lays) in
    laying-within s2

pub overflow_add-at-2 : goal.overflow_add-at-2
unfolding descriptor_lines descriptor_shown bases_shown
overflow_add-at-2 c =
    let h = c.args.h in
    let first = descriptor_line (descriptor_shown h) in
    let characters = fixed_line character_items in
    let bases = base_line (bases_shown h) in
    let zeros = fixed_line float_items ∷ fixed_line integer_items ∷ fixed_line integer_items ∷ [] in
    let s1 = laying-first (first ∷ []) (characters ∷ bases ∷ zeros) c.requires (one_line first c.write_descriptor-at.ensures.lays) in
    let s2 = laying-more (characters ∷ []) (bases ∷ zeros) s1 (one_line characters c.write_characters-at.ensures.lays) in
    let s3 = laying-alone (laying-more (bases ∷ []) zeros s2 (one_line bases c.write_bases-at.ensures.lays)) in
    omega (arith, c.well_formed, laying-fits s3)

pub slice_bounds-put_zeros-count : goal.slice_bounds-put_zeros-count
unfolding descriptor_lines descriptor_shown bases_shown
slice_bounds-put_zeros-count c =
    let h = c.args.h in
    let first = descriptor_line (descriptor_shown h) in
    let characters = fixed_line character_items in
    let bases = base_line (bases_shown h) in
    let zeros = fixed_line float_items ∷ fixed_line integer_items ∷ fixed_line integer_items ∷ [] in
    let s1 = laying-first (first ∷ []) (characters ∷ bases ∷ zeros) c.requires (one_line first c.write_descriptor-at.ensures.lays) in
    let s2 = laying-more (characters ∷ []) (bases ∷ zeros) s1 (one_line characters c.write_characters-at.ensures.lays) in
    let s3 = laying-alone (laying-more (bases ∷ []) zeros s2 (one_line bases c.write_bases-at.ensures.lays)) in
    laying-within s3

pub slice_bounds-put_zeros-start : goal.slice_bounds-put_zeros-start
unfolding descriptor_lines descriptor_shown bases_shown
slice_bounds-put_zeros-start c =
    let h = c.args.h in
    let first = descriptor_line (descriptor_shown h) in
    let characters = fixed_line character_items in
    let bases = base_line (bases_shown h) in
    let zeros = fixed_line float_items ∷ fixed_line integer_items ∷ fixed_line integer_items ∷ [] in
    let s1 = laying-first (first ∷ []) (characters ∷ bases ∷ zeros) c.requires (one_line first c.write_descriptor-at.ensures.lays) in
    let s2 = laying-more (characters ∷ []) (bases ∷ zeros) s1 (one_line characters c.write_characters-at.ensures.lays) in
    let s3 = laying-alone (laying-more (bases ∷ []) zeros s2 (one_line bases c.write_bases-at.ensures.lays)) in
    laying-within s3

pub put_zeros-requires : goal.put_zeros-requires
unfolding descriptor_lines descriptor_shown bases_shown
put_zeros-requires c =
    let h = c.args.h in
    let first = descriptor_line (descriptor_shown h) in
    let characters = fixed_line character_items in
    let bases = base_line (bases_shown h) in
    let zeros = fixed_line float_items ∷ fixed_line integer_items ∷ fixed_line integer_items ∷ [] in
    let s1 = laying-first (first ∷ []) (characters ∷ bases ∷ zeros) c.requires (one_line first c.write_descriptor-at.ensures.lays) in
    let s2 = laying-more (characters ∷ []) (bases ∷ zeros) s1 (one_line characters c.write_characters-at.ensures.lays) in
    let s3 = laying-alone (laying-more (bases ∷ []) zeros s2 (one_line bases c.write_bases-at.ensures.lays)) in
    laying-room zeros [] s3

pub overflow_add-result : goal.overflow_add-result
unfolding descriptor_lines descriptor_shown bases_shown
overflow_add-result c =
    let h = c.args.h in
    let first = descriptor_line (descriptor_shown h) in
    let characters = fixed_line character_items in
    let bases = base_line (bases_shown h) in
    let zeros = fixed_line float_items ∷ fixed_line integer_items ∷ fixed_line integer_items ∷ [] in
    let s1 = laying-first (first ∷ []) (characters ∷ bases ∷ zeros) c.requires (one_line first c.write_descriptor-at.ensures.lays) in
    let s2 = laying-more (characters ∷ []) (bases ∷ zeros) s1 (one_line characters c.write_characters-at.ensures.lays) in
    let s3 = laying-alone (laying-more (bases ∷ []) zeros s2 (one_line bases c.write_bases-at.ensures.lays)) in
    let s4 = laying-more zeros [] s3 c.put_zeros.ensures in
    omega (arith, c.well_formed, laying-fits s4)

pub returns : goal.returns
unfolding descriptor_lines descriptor_shown bases_shown
returns c =
    let h = c.args.h in
    let first = descriptor_line (descriptor_shown h) in
    let characters = fixed_line character_items in
    let bases = base_line (bases_shown h) in
    let zeros = fixed_line float_items ∷ fixed_line integer_items ∷ fixed_line integer_items ∷ [] in
    let s1 = laying-first (first ∷ []) (characters ∷ bases ∷ zeros) c.requires (one_line first c.write_descriptor-at.ensures.lays) in
    let s2 = laying-more (characters ∷ []) (bases ∷ zeros) s1 (one_line characters c.write_characters-at.ensures.lays) in
    let s3 = laying-alone (laying-more (bases ∷ []) zeros s2 (one_line bases c.write_bases-at.ensures.lays)) in
    let s4 = laying-more zeros [] s3 c.put_zeros.ensures in
    laying-end s4
