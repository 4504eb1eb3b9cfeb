use Rattle.std.proofs.Common.{◌≡◌, List, ℕ, ◌+◌, ◌-◌, ◌<◌, ◌≤◌, sym, ◌∙◌, ap, subst, take, drop, length, length-drop, refl, arith, Ok, Err}
use Rattle.std.specs.Prelude.{slice_range}
use Rattle.std.specs.Vec.{with_items}
use Rattle.std.proofs.lemmas.List.{with_items_is}
use Rattle.vx_desk.specs.declared.device.Slot.{Slot}
use Rattle.vx_desk.specs.Told.{Reads}
use Rattle.vx_desk.specs.Lines.{ReaderState, bytes_given}
use Rattle.vx_desk.proofs.ReaderLemmas.{same_state, Refills-ok, Refills-err, waiting-refilled, waiting-moved, last-moved, part-moved, part-within}
use Rattle.std.proofs.lemmas.Result.{err_from_is_err_and}
use Rattle.vx_desk.proofs.reader.LineReader.refill.Goals as goal

pub returns-clause-refills : goal.returns-clause-refills
returns-clause-refills g c =
    let is = c.self.view_is in
    let kept : ℕ = c.self.inside.kept in
    let start : ℕ = c.self.inside.start in
    let end : ℕ = c.self.inside.end in
    let down : ℕ = c.make_room-down.result in
    let low : down ≤ kept = c.make_room-down.ensures.down in
    let before : kept ≤ start = c.self.invariant.0 in
    let ordered : start ≤ end = c.self.invariant.1 in
    let old : List ℕ = c.self.inside.buffer.items in
    let room : List ℕ = c.make_room-down.new.buffer in
    let moved : List ℕ = c.read_behind-outcome.new.buffer in
    let size_room : length room ≡ c.self.inside.buffer.len = c.make_room-down.auto.buffer ∙ c.deref_mut.ensures.len in
    let size : length moved ≡ c.self.inside.buffer.len = c.read_behind-outcome.auto.buffer ∙ c.deref_mut-2.ensures.len in
    let items = with_items_is (with_items c.self.inside.buffer room) moved size in
    let part : slice_range moved (kept - down) (end - down) ≡ slice_range old kept end = part-moved old room moved kept end down (omega (arith, before, ordered))
    (c.make_room-down.ensures.part ∙ ap (λ (xs : List ℕ). slice_range xs kept end) c.deref_mut.ensures.value)
    (c.in_ok-count.ensures.front ∙ ap (take (end - down)) (c.deref_mut-2.ensures.value ∙ with_items_is c.self.inside.buffer room size_room)) in
    let slot = ap (λ (s : ReaderState). s.slot) is in
    let limit = ap (λ (s : ReaderState). s.limit) is in
    let waits = ap (λ (s : ReaderState). s.waiting) is in
    let bytes = ap (bytes_given c.self.inside.last (kept - down)) items ∙ (last-moved c.self.inside.last old moved kept start end down c.self.invariant.6 low ordered part ∙ ap (λ (s : ReaderState). s.last_bytes) is) in
    let reads = subst (λ (s : Slot). Reads (drop (end - down) moved) (g.D.Desk.told c.args.desk.now s) (g.D.Desk.told c.read_behind-outcome.new.desk s) (Ok c.in_ok-count.count)) slot c.in_ok-count.ensures.reads in
    let short : end - kept < c.self.inside.buffer.len = part-within old c.args.self.now.waiting kept start end c.self.inside.limit c.self.inside.buffer.len waits c.self.inside.buffer.ok.0 ordered c.self.invariant.2 c.self.invariant.3 c.self.invariant.4 (subst (λ (n : ℕ). length c.args.self.now.waiting ≤ n) (sym limit) c.requires.within) in
    let free : end - down < c.self.inside.buffer.len = subst (λ (n : ℕ). end - down < n) c.deref_mut.ensures.len (c.make_room-down.ensures.room (subst (λ (n : ℕ). end - kept < n) (sym c.deref_mut.ensures.len) short)) in
    Refills-ok c.args.self.now _ _ _ (drop (end - down) moved) c.in_ok-count.count
    (same_state _ _ slot limit refl (ap (λ (s : ReaderState). s.number) is) (ap (λ (s : ReaderState). s.is_ended) is) (ap (λ (s : ReaderState). s.last) is) bytes)
    (ap (λ (xs : List ℕ). slice_range xs (start - down) ((end - down) + c.in_ok-count.count)) items ∙ waiting-refilled c.args.self.now.waiting old moved kept start end down c.in_ok-count.count waits low before ordered (omega (arith, free, size)) part)
    reads
    (omega (arith, length-drop (end - down) moved, size, free))

pub returns-in_err-count-clause-refills : goal.returns-in_err-count-clause-refills
returns-in_err-count-clause-refills g c =
    let is = c.self.view_is in
    let kept : ℕ = c.self.inside.kept in
    let start : ℕ = c.self.inside.start in
    let end : ℕ = c.self.inside.end in
    let down : ℕ = c.make_room-down.result in
    let low : down ≤ kept = c.make_room-down.ensures.down in
    let before : kept ≤ start = c.self.invariant.0 in
    let ordered : start ≤ end = c.self.invariant.1 in
    let old : List ℕ = c.self.inside.buffer.items in
    let room : List ℕ = c.make_room-down.new.buffer in
    let moved : List ℕ = c.read_behind-outcome.new.buffer in
    let size_room : length room ≡ c.self.inside.buffer.len = c.make_room-down.auto.buffer ∙ c.deref_mut.ensures.len in
    let size : length moved ≡ c.self.inside.buffer.len = c.read_behind-outcome.auto.buffer ∙ c.deref_mut-2.ensures.len in
    let items = with_items_is (with_items c.self.inside.buffer room) moved size in
    let part : slice_range moved (kept - down) (end - down) ≡ slice_range old kept end = part-moved old room moved kept end down (omega (arith, before, ordered))
    (c.make_room-down.ensures.part ∙ ap (λ (xs : List ℕ). slice_range xs kept end) c.deref_mut.ensures.value)
    (c.in_err-count.ensures.front ∙ ap (take (end - down)) (c.deref_mut-2.ensures.value ∙ with_items_is c.self.inside.buffer room size_room)) in
    let slot = ap (λ (s : ReaderState). s.slot) is in
    let limit = ap (λ (s : ReaderState). s.limit) is in
    let waits = ap (λ (s : ReaderState). s.waiting) is in
    let bytes = ap (bytes_given c.self.inside.last (kept - down)) items ∙ (last-moved c.self.inside.last old moved kept start end down c.self.invariant.6 low ordered part ∙ ap (λ (s : ReaderState). s.last_bytes) is) in
    let reads = subst (λ (s : Slot). Reads (drop (end - down) moved) (g.D.Desk.told c.args.desk.now s) (g.D.Desk.told c.read_behind-outcome.new.desk s) (Err c.in_err-count.field-0.0)) slot c.in_err-count.ensures.reads in
    let p = err_from_is_err_and c.from_residual.result c.from_residual.ensures.1 in
    rw (p.1, p.2)
    (Refills-err c.args.self.now _ _ _ (drop (end - down) moved) c.in_err-count.field-0.0
    (same_state _ _ slot limit refl (ap (λ (s : ReaderState). s.number) is) (ap (λ (s : ReaderState). s.is_ended) is) (ap (λ (s : ReaderState). s.last) is) bytes)
    (ap (λ (xs : List ℕ). slice_range xs (start - down) (end - down)) items ∙ waiting-moved c.args.self.now.waiting old moved kept start end down waits low before ordered part)
    reads)
