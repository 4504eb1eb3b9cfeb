-- What one more part does to a text, and to the state.
use Rattle.std.proofs.Common.{◌≡◌, refl, sym, ap, ◌∙◌, ℕ, zero, suc, ◌+◌, ◌*◌, List, [], ◌∷◌, ◌++◌, length, add-one, append_assoc, arith}
use Rattle.std.proofs.lemmas.List.{append-nil, length-append}
use Rattle.std.proofs.lemmas.List.Concat.{flat_map-append}
use Rattle.vx_clock.specs.declared.terms.Expiry.{Expiry}
use Rattle.vx_feed.specs.declared.events.Event.{Event}
use Rattle.vx_feed.specs.declared.events.Event.TheVariants as event
use Rattle.vx_feed.specs.Written.{event_text, text_of_events}
use Rattle.vx_make.specs.Drawing.{next_state, state_after}
use Rattle.vx_make.specs.Quotes.{for_each, strike_quotes, expiry_quotes, drawn_centre}
use Rattle.vx_make.specs.Feed.{standard_term, weekly_term, declared_terms, strike_series, listed_series, tick_events, tick_events_at, ticks_events, body_events, head_events, closing_event, make_events, make_text, header}

pub for_each_none : {A : Type 0} → (part : ℕ → List A) → for_each 0 part ≡ []
unfolding for_each
for_each_none part = refl

pub for_each_more : {A : Type 0} → (n : ℕ) (part : ℕ → List A) → for_each (n + 1) part ≡ for_each n part ++ part n
unfolding for_each
for_each_more n part = rw add-one refl

pub texts-append : (xs ys : List Event) → text_of_events (xs ++ ys) ≡ text_of_events xs ++ text_of_events ys
texts-append xs ys = flat_map-append event_text xs ys

-- no part has been written
pub text_none : (old : List ℕ) (part : ℕ → List Event) → old ≡ old ++ text_of_events (for_each 0 part)
text_none old part = rw (for_each_none part) (sym (append-nil old))

-- one more part is written
pub text_one_part_more : (old now new : List ℕ) (part : ℕ → List Event) (n : ℕ) → now ≡ old ++ text_of_events (for_each n part) → new ≡ now ++ text_of_events (part n) → new ≡ old ++ text_of_events (for_each (n + 1) part)
text_one_part_more old now new part n so_far one =
    one ∙ ap (λ t. t ++ text_of_events (part n)) so_far ∙ append_assoc old (text_of_events (for_each n part)) (text_of_events (part n))
    ∙ ap (λ t. old ++ t) (sym (texts-append (for_each n part) (part n)) ∙ ap text_of_events (sym (for_each_more n part)))

pub state_after_none : (state : ℕ) → state_after 0 state ≡ state
unfolding state_after
state_after_none state = refl

pub state_after-add : (more draws state : ℕ) → state_after (more + draws) state ≡ state_after more (state_after draws state)
unfolding state_after
state_after-add zero draws state = let same : 0 + draws ≡ draws = omega arith in rw same refl
state_after-add (suc more) draws state = let next : suc more + draws ≡ suc (more + draws) = omega arith in rw next (ap next_state (state_after-add more draws state))

-- the state after one more part, each of which takes so many draws
pub state_more : (draws n first now new : ℕ) → now ≡ state_after (draws * n) first → new ≡ state_after draws now → new ≡ state_after (draws * (n + 1)) first
state_more draws n first now new so_far one =
    let sum : draws * (n + 1) ≡ draws + draws * n = omega arith in
    one ∙ ap (state_after draws) so_far ∙ sym (state_after-add draws (draws * n) first) ∙ ap (λ k. state_after k first) (sym sum)

-- the same of a part that is drawn from the state before it
pub text_more_from : (old now new : List ℕ) (at : ℕ → ℕ → List Event) (draws n first state : ℕ)
    → now ≡ old ++ text_of_events (for_each n (λ i. at i (state_after (draws * i) first))) → state ≡ state_after (draws * n) first
    → new ≡ now ++ text_of_events (at n state)
    → new ≡ old ++ text_of_events (for_each (n + 1) (λ i. at i (state_after (draws * i) first)))
text_more_from old now new at draws n first state so_far steps one =
    text_one_part_more old now new (λ i. at i (state_after (draws * i) first)) n so_far (one ∙ ap (λ s. now ++ text_of_events (at n s)) steps)

-- all parts are written
pub text_all : (old new : List ℕ) (part : ℕ → List Event) (n all : ℕ) → n ≡ all → new ≡ old ++ text_of_events (for_each n part) → new ≡ old ++ text_of_events (for_each all part)
text_all old new part n all e written = written ∙ ap (λ k. old ++ text_of_events (for_each k part)) e

pub state_none : (draws first : ℕ) → first ≡ state_after (draws * 0) first
state_none draws first = let none : draws * 0 ≡ 0 = omega arith in rw (none, state_after_none first)

pub state_all : (draws first new n all : ℕ) → n ≡ all → new ≡ state_after (draws * n) first → new ≡ state_after (draws * all) first
state_all draws first new n all e steps = steps ∙ ap (λ k. state_after (draws * k) first) e

-- ---- a tick

state_after_one : (state : ℕ) → state_after 1 state ≡ next_state state
unfolding state_after
state_after_one state = refl

pub tick_steps : (state centre first second : ℕ) → centre ≡ next_state state → first ≡ state_after 800 centre → second ≡ state_after 800 first → second ≡ state_after 1601 state
tick_steps state centre first second c f s =
    s ∙ ap (state_after 800) (f ∙ ap (state_after 800) (c ∙ sym (state_after_one state)) ∙ sym (state_after-add 800 1 state)) ∙ sym (state_after-add 800 801 state)

-- three parts after one another are one
pub text_three : (old a b c : List ℕ) (xs ys zs : List Event) → a ≡ old ++ text_of_events xs → b ≡ a ++ text_of_events ys → c ≡ b ++ text_of_events zs → c ≡ old ++ text_of_events (xs ++ ys ++ zs)
text_three old a b c xs ys zs first second third =
    third ∙ ap (λ t. t ++ text_of_events zs) (second ∙ ap (λ t. t ++ text_of_events ys) first ∙ append_assoc old (text_of_events xs) (text_of_events ys) ∙ ap (λ t. old ++ t) (sym (texts-append xs ys)))
    ∙ append_assoc old (text_of_events (xs ++ ys)) (text_of_events zs) ∙ ap (λ t. old ++ t) (sym (texts-append (xs ++ ys) zs))

-- one event is a part
pub text_one : (e : Event) → event_text e ≡ text_of_events (e ∷ [])
text_one e = sym (append-nil (event_text e))

-- ---- the whole feed

-- parts of one length
pub length-for_each : {A : Type 0} → (k n : ℕ) (part : ℕ → List A) → ((i : ℕ) → length (part i) ≡ k) → length (for_each n part) ≡ k * n
unfolding for_each
length-for_each k zero part each = omega arith
length-for_each k (suc n) part each =
    let before = length-for_each k n part each in
    length-append (for_each n part) (part n) ∙ omega (arith, each n)

length-quotes : (time centre : ℕ) (x : Expiry) (state : ℕ) → length (expiry_quotes time centre x state) ≡ 400
length-quotes time centre x state = length-for_each 2 200 (λ i. strike_quotes time centre x i (state_after (4 * i) state)) (λ i. refl)

-- how many events a tick has
pub length-tick : (time state : ℕ) → length (tick_events time state) ≡ 801
unfolding tick_events
length-tick time state =
    let first = next_state state in
    let centre = drawn_centre first in
    let a = expiry_quotes time centre standard_term first in
    let b = expiry_quotes time centre weekly_term (state_after 800 first) in
    let la : length a ≡ 400 = length-quotes time centre standard_term first in
    let lb : length b ≡ 400 = length-quotes time centre weekly_term (state_after 800 first) in
    length-append (a ++ b) (event.Tick time ∷ []) ∙ ap (λ n. n + 1) (length-append a b) ∙ omega arith

-- how many lines stand between the header and the end
pub length-body : (number ticks : ℕ) → length (body_events number ticks) ≡ 804 + 801 * ticks
length-body number ticks =
    let ls = listed_series standard_term in
    let lw = listed_series weekly_term in
    let ts = ticks_events number ticks in
    let a : length ls ≡ 400 = length-for_each 2 200 (strike_series standard_term) (λ i. refl) in
    let b : length lw ≡ 400 = length-for_each 2 200 (strike_series weekly_term) (λ i. refl) in
    let c : length ts ≡ 801 * ticks = length-for_each 801 ticks (λ t. tick_events (510 + t) (state_after (1601 * t) number)) (λ t. length-tick (510 + t) (state_after (1601 * t) number)) in
    length-append (declared_terms ++ ls ++ lw) ts ∙ ap (λ n. n + length ts) (length-append (declared_terms ++ ls) lw ∙ ap (λ n. n + length lw) (length-append declared_terms ls)) ∙ omega arith

pub length-make : (number ticks : ℕ) → length (make_events number ticks) ≡ 806 + 801 * ticks
length-make number ticks =
    let body = length-body number ticks in
    ap suc (length-append (body_events number ticks) (event.End (length (body_events number ticks)) ∷ [])) ∙ omega arith

quotes_same : (time c c' : ℕ) (x x' : Expiry) (s s' : ℕ) → c ≡ c' → x ≡ x' → s ≡ s' → expiry_quotes time c x s ≡ expiry_quotes time c' x' s'
quotes_same time c c' x x' s s' centre term state =
    ap (λ k. expiry_quotes time k x s) centre ∙ ap (λ y. expiry_quotes time c' y s) term ∙ ap (λ k. expiry_quotes time c' x' k) state

-- the quotes of both terms and the tick, after one another
pub tick_text : (old a b c : List ℕ) (time state first centre second : ℕ) (standard weekly : Expiry) → first ≡ next_state state → centre ≡ drawn_centre first → standard ≡ standard_term → weekly ≡ weekly_term → second ≡ state_after 800 first
    → a ≡ old ++ text_of_events (expiry_quotes time centre standard first) → b ≡ a ++ text_of_events (expiry_quotes time centre weekly second) → c ≡ b ++ event_text (event.Tick time) → c ≡ old ++ text_of_events (tick_events time state)
unfolding tick_events
tick_text old a b c time state first centre second standard weekly hf hc hs hw h2 ha hb he =
    let start = next_state state in
    let middle = hc ∙ ap drawn_centre hf in
    let quotes = quotes_same time centre (drawn_centre start) standard standard_term first start middle hs hf in
    let others = quotes_same time centre (drawn_centre start) weekly weekly_term second (state_after 800 start) middle hw (h2 ∙ ap (state_after 800) hf) in
    text_three old a b c (expiry_quotes time (drawn_centre start) standard_term start) (expiry_quotes time (drawn_centre start) weekly_term (state_after 800 start)) (event.Tick time ∷ [])
    (ha ∙ ap (λ es. old ++ text_of_events es) quotes) (hb ∙ ap (λ es. a ++ text_of_events es) others) (he ∙ ap (λ t. b ++ t) (text_one (event.Tick time)))

-- what stands before the first tick, part after part
pub head_is_its_text : (old a b c : List ℕ) (standard weekly : Expiry) → standard ≡ standard_term → weekly ≡ weekly_term
    → a ≡ old ++ text_of_events (header ∷ declared_terms) → b ≡ a ++ text_of_events (listed_series standard) → c ≡ b ++ text_of_events (listed_series weekly)
    → c ≡ old ++ text_of_events head_events
head_is_its_text old a b c standard weekly ht hw ha hb hc =
    text_three old a b c (header ∷ declared_terms) (listed_series standard_term) (listed_series weekly_term) ha
    (hb ∙ ap (λ x. a ++ text_of_events (listed_series x)) ht) (hc ∙ ap (λ x. b ++ text_of_events (listed_series x)) hw)

-- the last line
end_text : (number ticks : ℕ) → event_text (event.End (804 + 801 * ticks)) ≡ event_text (closing_event number ticks)
end_text number ticks = ap (λ n. event_text (event.End n)) (sym (length-body number ticks))

pub last_line_text : (old new : List ℕ) (number ticks : ℕ) → old ≡ [] → new ≡ old ++ event_text (event.End (804 + 801 * ticks)) → new ≡ event_text (closing_event number ticks)
last_line_text old new number ticks none h = h ∙ ap (λ t. t ++ event_text (event.End (804 + 801 * ticks))) none ∙ end_text number ticks

-- the parts of the feed after one another
pub feed_text : (start a b c : List ℕ) (number ticks : ℕ) → start ≡ [] → a ≡ start ++ text_of_events head_events
    → b ≡ a ++ text_of_events (ticks_events number ticks) → c ≡ b ++ event_text (event.End (804 + 801 * ticks)) → c ≡ make_text number ticks
feed_text start a b c number ticks hs ha hb hc =
    let last = hc ∙ ap (λ t. b ++ t) (end_text number ticks ∙ text_one (closing_event number ticks)) in
    text_three start a b c head_events (ticks_events number ticks) (closing_event number ticks ∷ []) ha hb last ∙ ap (λ t. t ++ make_text number ticks) hs

-- a tick's lines by its place, in a room that held nothing
pub tick_lines_text : (old new : List ℕ) (number made count state : ℕ) → count ≡ made → state ≡ state_after (1601 * made) number → old ≡ []
    → new ≡ old ++ text_of_events (tick_events (510 + count) state) → new ≡ text_of_events (tick_events_at number made)
tick_lines_text old new number made count state hc hs none h =
    h ∙ ap (λ t. t ++ text_of_events (tick_events (510 + count) state)) none
    ∙ ap (λ n. text_of_events (tick_events (510 + n) state)) hc ∙ ap (λ s. text_of_events (tick_events (510 + made) s)) hs
