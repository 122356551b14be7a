use Rattle.std.proofs.Common.{[], ◌∷◌, arith}
use Rattle.record.specs.Descriptors.{float_items, integer_items, fixed_line}
use Rattle.writer.proofs.Laying.{laying-first, laying-within, laying-fits, laying-more, laying-end, one_line}
use Rattle.writer.proofs.heads.put_zeros.Goals as goal

pub slice_bounds-write_integers-count : goal.slice_bounds-write_integers-count
slice_bounds-write_integers-count c =
    let floats = fixed_line float_items in
    let integers = fixed_line integer_items in
    let s1 = laying-first (floats ∷ []) (integers ∷ integers ∷ []) c.requires (one_line floats c.write_floats-at.ensures.lays) in
    laying-within s1

pub slice_bounds-write_integers-start : goal.slice_bounds-write_integers-start
slice_bounds-write_integers-start c =
    let floats = fixed_line float_items in
    let integers = fixed_line integer_items in
    let s1 = laying-first (floats ∷ []) (integers ∷ integers ∷ []) c.requires (one_line floats c.write_floats-at.ensures.lays) in
    laying-within s1

pub overflow_add-at : goal.overflow_add-at
overflow_add-at c =
    let floats = fixed_line float_items in
    let integers = fixed_line integer_items in
    let s1 = laying-first (floats ∷ []) (integers ∷ integers ∷ []) c.requires (one_line floats c.write_floats-at.ensures.lays) in
    let s2 = laying-more (integers ∷ []) (integers ∷ []) s1 (one_line integers c.write_integers-at.ensures.lays) in
    omega (arith, c.well_formed, laying-fits s2)

pub slice_bounds-write_integers-count-2 : goal.slice_bounds-write_integers-count-2
slice_bounds-write_integers-count-2 c =
    let floats = fixed_line float_items in
    let integers = fixed_line integer_items in
    let s1 = laying-first (floats ∷ []) (integers ∷ integers ∷ []) c.requires (one_line floats c.write_floats-at.ensures.lays) in
    let s2 = laying-more (integers ∷ []) (integers ∷ []) s1 (one_line integers c.write_integers-at.ensures.lays) in
    laying-within s2

pub slice_bounds-write_integers-start-2 : goal.slice_bounds-write_integers-start-2
slice_bounds-write_integers-start-2 c =
    let floats = fixed_line float_items in
    let integers = fixed_line integer_items in
    let s1 = laying-first (floats ∷ []) (integers ∷ integers ∷ []) c.requires (one_line floats c.write_floats-at.ensures.lays) in
    let s2 = laying-more (integers ∷ []) (integers ∷ []) s1 (one_line integers c.write_integers-at.ensures.lays) in
    laying-within s2

pub overflow_add-result : goal.overflow_add-result
overflow_add-result c =
    let floats = fixed_line float_items in
    let integers = fixed_line integer_items in
    let s1 = laying-first (floats ∷ []) (integers ∷ integers ∷ []) c.requires (one_line floats c.write_floats-at.ensures.lays) in
    let s2 = laying-more (integers ∷ []) (integers ∷ []) s1 (one_line integers c.write_integers-at.ensures.lays) in
    let s3 = laying-more (integers ∷ []) [] s2 (one_line integers c.write_integers.ensures.lays) in
    omega (arith, c.well_formed, laying-fits s3)

pub returns : goal.returns
returns c =
    let floats = fixed_line float_items in
    let integers = fixed_line integer_items in
    let s1 = laying-first (floats ∷ []) (integers ∷ integers ∷ []) c.requires (one_line floats c.write_floats-at.ensures.lays) in
    let s2 = laying-more (integers ∷ []) (integers ∷ []) s1 (one_line integers c.write_integers-at.ensures.lays) in
    let s3 = laying-more (integers ∷ []) [] s2 (one_line integers c.write_integers.ensures.lays) in
    laying-end s3
