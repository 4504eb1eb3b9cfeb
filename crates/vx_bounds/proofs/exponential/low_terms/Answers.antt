use Rattle.std.proofs.Common.{◌≡◌, ◌∙◌, ◌+◌, ◌*◌, ◌/◌, refl, sym, ap, arith}
use Rattle.vx_bounds.specs.Exponential.{low_term, low_sum_to}
use Rattle.vx_bounds.proofs.EndLemmas.{low_at_most, low_so_far, low_first}
use Rattle.vx_bounds.proofs.Steps.{low_next_is, low_sum_next, low_sum_first, collects_none, collects_more, terms_done}
use Rattle.vx_bounds.proofs.exponential.low_terms.Goals as goal

pub loop-k-init : goal.loop-k-init
loop-k-init c =
    let first = sym (low_first c.args.first c.args.p c.args.q) in
    collects_none _ _ _ _ _ refl first first (sym (low_sum_first c.args.first c.args.p c.args.q))

pub next_low-term-requires : goal.next_low-term-requires
next_low-term-requires c =
    let e = c.loop-k.invariant.last_is in let b = low_at_most c.args.first c.args.p c.args.q c.loop-k.k c.requires.divisor.0 c.requires.small in let f = c.requires.bounded in
    record { bounded = omega arith; place = omega arith; divisor = c.requires.divisor; small = c.requires.small }

pub overflow_add-sum : goal.overflow_add-sum
overflow_add-sum c =
    let next : c.next_low-term.result ≡ low_term c.args.first c.args.p c.args.q (c.loop-k.k + 1) =
    c.next_low-term.ensures ∙ ap (λ z. z * c.args.p / (c.args.q * (c.loop-k.k + 1))) c.loop-k.invariant.last_is ∙ sym (low_next_is c.args.first c.args.p c.args.q c.loop-k.k) in
    let added = c.loop-k.invariant.added_is in
    let more = low_sum_next c.args.first c.args.p c.args.q c.loop-k.k in
    let so_far = low_so_far c.args.first c.args.p c.args.q (c.loop-k.k + 1) c.requires.divisor.0 c.requires.small in
    let f = c.requires.bounded in
    omega arith

pub loop-k-preserved : goal.loop-k-preserved
loop-k-preserved c =
    let next : c.next_low-term.result ≡ low_term c.args.first c.args.p c.args.q (c.loop-k.k + 1) =
    c.next_low-term.ensures ∙ ap (λ z. z * c.args.p / (c.args.q * (c.loop-k.k + 1))) c.loop-k.invariant.last_is ∙ sym (low_next_is c.args.first c.args.p c.args.q c.loop-k.k) in
    collects_more _ _ _ _ _ _ _ (omega arith) c.loop-k.invariant next (low_sum_next c.args.first c.args.p c.args.q c.loop-k.k)

pub next_low-requires : goal.next_low-requires
next_low-requires c =
    let e = c.loop-k.invariant.last_is in let b = low_at_most c.args.first c.args.p c.args.q c.loop-k.k c.requires.divisor.0 c.requires.small in let f = c.requires.bounded in
    record { bounded = omega arith; place = omega arith; divisor = c.requires.divisor; small = c.requires.small }

pub returns : goal.returns
returns c =
    let last : c.loop-k.k ≡ 12 = omega arith in
    let e = c.loop-k.invariant.last_is ∙ ap (low_term c.args.first c.args.p c.args.q) last in
    let next : c.next_low.result ≡ low_term c.args.first c.args.p c.args.q 13 =
    c.next_low.ensures ∙ ap (λ z. z * c.args.p / (c.args.q * 13)) e ∙ sym (low_next_is c.args.first c.args.p c.args.q 12) in
    record {
      terms = terms_done _ _ _ _ _ _ _ last c.loop-k.invariant next;
      sum = c.loop-k.invariant.added_is ∙ ap (low_sum_to c.args.first c.args.p c.args.q) last;
    }
