use Rattle.std.proofs.Common.{[], ◌∷◌, arith}
use Rattle.record.specs.Opening.{first_line, second_line}
use Rattle.record.specs.SlotLines.{satellites_line}
use Rattle.canon.specs.Canonical.{first_shown, second_shown, satellites_shown}
use Rattle.writer.proofs.Laying.{laying-first, laying-within, laying-fits, laying-more, laying-end, one_line}
use Rattle.writer.proofs.heads.put_first.Goals as goal

pub slice_bounds-write_second-count : goal.slice_bounds-write_second-count
unfolding satellites_shown
slice_bounds-write_second-count c =
    let a = c.args in
    let first = first_line a.rules (first_shown a.h) in
    let second = second_line (second_shown a.h) in
    let third = satellites_line a.rules (satellites_shown a.h.satellites a.identifiers.now) in
    let s1 = laying-first (first ∷ []) (second ∷ third ∷ []) c.requires.identifiers_in_bounds (one_line first (rw c.first_shown.ensures at c.write_first-at.ensures.lays)) in
    laying-within s1

pub slice_bounds-write_second-start : goal.slice_bounds-write_second-start
unfolding satellites_shown
slice_bounds-write_second-start c =
    let a = c.args in
    let first = first_line a.rules (first_shown a.h) in
    let second = second_line (second_shown a.h) in
    let third = satellites_line a.rules (satellites_shown a.h.satellites a.identifiers.now) in
    let s1 = laying-first (first ∷ []) (second ∷ third ∷ []) c.requires.identifiers_in_bounds (one_line first (rw c.first_shown.ensures at c.write_first-at.ensures.lays)) in
    laying-within s1

pub overflow_add-at : goal.overflow_add-at
unfolding satellites_shown
overflow_add-at c =
    let a = c.args in
    let first = first_line a.rules (first_shown a.h) in
    let second = second_line (second_shown a.h) in
    let third = satellites_line a.rules (satellites_shown a.h.satellites a.identifiers.now) in
    let s1 = laying-first (first ∷ []) (second ∷ third ∷ []) c.requires.identifiers_in_bounds (one_line first (rw c.first_shown.ensures at c.write_first-at.ensures.lays)) in
    let s2 = laying-more (second ∷ []) (third ∷ []) s1 (one_line second (rw c.second_shown.ensures at c.write_second-at.ensures.lays)) in
    omega (arith, c.well_formed, laying-fits s2)

pub slice_bounds-write_satellites-count : goal.slice_bounds-write_satellites-count
unfolding satellites_shown
slice_bounds-write_satellites-count c =
    let a = c.args in
    let first = first_line a.rules (first_shown a.h) in
    let second = second_line (second_shown a.h) in
    let third = satellites_line a.rules (satellites_shown a.h.satellites a.identifiers.now) in
    let s1 = laying-first (first ∷ []) (second ∷ third ∷ []) c.requires.identifiers_in_bounds (one_line first (rw c.first_shown.ensures at c.write_first-at.ensures.lays)) in
    let s2 = laying-more (second ∷ []) (third ∷ []) s1 (one_line second (rw c.second_shown.ensures at c.write_second-at.ensures.lays)) in
    laying-within s2

pub slice_bounds-write_satellites-start : goal.slice_bounds-write_satellites-start
unfolding satellites_shown
slice_bounds-write_satellites-start c =
    let a = c.args in
    let first = first_line a.rules (first_shown a.h) in
    let second = second_line (second_shown a.h) in
    let third = satellites_line a.rules (satellites_shown a.h.satellites a.identifiers.now) in
    let s1 = laying-first (first ∷ []) (second ∷ third ∷ []) c.requires.identifiers_in_bounds (one_line first (rw c.first_shown.ensures at c.write_first-at.ensures.lays)) in
    let s2 = laying-more (second ∷ []) (third ∷ []) s1 (one_line second (rw c.second_shown.ensures at c.write_second-at.ensures.lays)) in
    laying-within s2

pub overflow_add-result : goal.overflow_add-result
unfolding satellites_shown
overflow_add-result c =
    let a = c.args in
    let first = first_line a.rules (first_shown a.h) in
    let second = second_line (second_shown a.h) in
    let third = satellites_line a.rules (satellites_shown a.h.satellites a.identifiers.now) in
    let s1 = laying-first (first ∷ []) (second ∷ third ∷ []) c.requires.identifiers_in_bounds (one_line first (rw c.first_shown.ensures at c.write_first-at.ensures.lays)) in
    let s2 = laying-more (second ∷ []) (third ∷ []) s1 (one_line second (rw c.second_shown.ensures at c.write_second-at.ensures.lays)) in
    let s3 = laying-more (third ∷ []) [] s2 (one_line third (rw c.seventeen.ensures at c.write_satellites.ensures.lays)) in
    omega (arith, c.well_formed, laying-fits s3)

pub returns : goal.returns
unfolding satellites_shown
returns c =
    let a = c.args in
    let first = first_line a.rules (first_shown a.h) in
    let second = second_line (second_shown a.h) in
    let third = satellites_line a.rules (satellites_shown a.h.satellites a.identifiers.now) in
    let s1 = laying-first (first ∷ []) (second ∷ third ∷ []) c.requires.identifiers_in_bounds (one_line first (rw c.first_shown.ensures at c.write_first-at.ensures.lays)) in
    let s2 = laying-more (second ∷ []) (third ∷ []) s1 (one_line second (rw c.second_shown.ensures at c.write_second-at.ensures.lays)) in
    let s3 = laying-more (third ∷ []) [] s2 (one_line third (rw c.seventeen.ensures at c.write_satellites.ensures.lays)) in
    laying-end s3
