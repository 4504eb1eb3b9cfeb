-- A run over a feed and a file of certificates is one.
use Rattle.std.proofs.Common.{◌≡◌, ◌∙◌, sym, ap, subst, refl, ℕ, ◌+◌, ◌≤◌, ◌⊎◌, inl, inr, Bool, true, false, List, [], ◌∷◌, ◌++◌, length, Option, Some, Result, Ok, Err, arith}
use Rattle.std.specs.Prelude.{◌==◌, nat_lt, if◌then◌else◌}
use Rattle.std.proofs.lemmas.Bool.Decides.{nat_tests}
use Rattle.vx_lines.specs.TextLines.{Ending, TextLines, at_end, ended, no_eol, too_long, too_many}
use Rattle.vx_feed.specs.declared.events.Event.{Event}
use Rattle.vx_feed.specs.Feed.{BadLine, Reading}
use Rattle.vx_reading.specs.declared.stop.FeedCause.{FeedCause}
use Rattle.vx_reading.specs.FeedReading.{is_met}
use Rattle.vx_reading.specs.Stops.{bad_cause}
use Rattle.vx_drivers.specs.declared.exit.Exit.{Exit}
use Rattle.vx_drivers.specs.declared.exit.Exit.TheVariants.{Done, SaidNo, Usage, BadFeed, OpenFault, ReadFault, WriteFault, NoMemory, BadPositions, BadCerts}
use Rattle.vx_drivers.specs.declared.exit.LineCause.{LineCause}
use Rattle.vx_drivers.specs.declared.exit.LineCause.TheVariants as line
use Rattle.vx_drivers.specs.Along.{Along}
use Rattle.vx_drivers.specs.Answers.{Answer, answers_text, count_no}
use Rattle.vx_drivers.specs.CertificateRun.{AllAnswered, Answers, AnswersCertificate, AnswersSaid, EndsWithRest, Rules, Runs, Stand, Stops, StopsAt, answered, ending_for, last_line, start}
use Rattle.vx_drivers.specs.CertificateSteps.{said_exit}
use Rattle.vx_drivers.specs.Sending.{Text}
use Rattle.vx_drivers.proofs.CauseLemmas.{cause_one}

-- ---- endings are told apart

abbrev line_of : Ending → LineCause
line_of at_end = line.TooLong
line_of too_long = line.TooLong
line_of no_eol = line.NoEol
line_of too_many = line.TooMany

line_of-ending : (why : LineCause) → line_of (ending_for why) ≡ why
line_of-ending line.TooLong = refl
line_of-ending line.NoEol = refl
line_of-ending line.TooMany = refl

not_at_end : (why : LineCause) → ending_for why ≡ at_end → ⊥
not_at_end line.TooLong h = cc
not_at_end line.NoEol h = cc
not_at_end line.TooMany h = cc

same_bad : (a b : Option BadLine) (m n : BadLine) → a ≡ Some m → a ≡ Some n → m ≡ n
same_bad a b m n h k = cc

pub same_head : {X : Type 0} (x y : X) (xs ys : List X) → x ∷ xs ≡ y ∷ ys → x ≡ y
same_head x y xs ys h = cc

pub same_tail : {X : Type 0} (x y : X) (xs ys : List X) → x ∷ xs ≡ y ∷ ys → xs ≡ ys
same_tail x y xs ys h = cc

not_empty : (x : List ℕ) (xs ys : List (List ℕ)) → ys ≡ x ∷ xs → ys ≡ [] → ⊥
not_empty x xs ys h k = cc

pub same_text_lines : (a b : TextLines) → a.lines ≡ b.lines → a.ending ≡ b.ending → a ≡ b
same_text_lines a b p q = λ i. record { lines = p i; ending = q i }

not_done : (count : ℕ) → 1 ≤ count → (count == 0) ≡ false
not_done count some = grind (arith, nat_tests)

said_is : (count : ℕ) → 1 ≤ count → SaidNo count ≡ said_exit count
said_is count some = ap (λ (b : Bool). if b then Done else SaidNo count) (sym (not_done count some))

module _ {C : Type 0} (rules : Rules C)
    (reads_one : (text : List ℕ) (a b : Result C Text) → rules.ReadsAs text a → rules.ReadsAs text b → a ≡ b)
    (judges_one : (events : List Event) (c : C) (a b : Answer) → rules.Judges events c a → rules.Judges events c b → a ≡ b)
    (feed : Reading) where
  -- ---- one line

  certificate_one : (old : Stand) (c : C) (late : Bool) (a b : Stand) → AnswersCertificate rules feed old c late a → AnswersCertificate rules feed old c late b → a ≡ b
  certificate_one old c true a b h k = h ∙ sym k
  certificate_one old c false a b (m, x, h, p) (n, y, k, q) =
      p ∙ ap (λ (z : Answer). answered old z (rules.named c)) (judges_one _ c x y h k) ∙ sym q

  said_one : (old : Stand) (said : Result C Text) (a b : Stand) → AnswersSaid rules feed old said a → AnswersSaid rules feed old said b → a ≡ b
  said_one old (Ok c) a b h k = certificate_one old c (nat_lt (rules.named c) old.reached) a b h k
  said_one old (Err word) a b h k = h ∙ sym k

  answer_one : (old : Stand) (text : List ℕ) (a b : Stand) → Answers rules feed old text a → Answers rules feed old text b → a ≡ b
  answer_one old text a b (s, h, p) (t, k, q) =
      said_one old t a b (subst (λ (u : Result C Text). AnswersSaid rules feed old u a) (reads_one text s t h k) p) q

  met_is_not_answered : (old new : Stand) (c : C) (late : Bool) → late ≡ false → is_met (rules.named c) feed ≡ true → AnswersCertificate rules feed old c late new → ⊥
  met_is_not_answered old new c true late met h = cc
  met_is_not_answered old new c false late met (good, x, judges, is) = cc

  -- a line that is answered does not end the run
  answered_goes_on : (old new : Stand) (text : List ℕ) → Answers rules feed old text new → Stops rules feed old text → ⊥
  answered_goes_on old new text (said, reads, step) stops =
      let same : said ≡ Ok stops.certificate = reads_one text said (Ok stops.certificate) reads stops.reads in
      met_is_not_answered old new stops.certificate (nat_lt (rules.named stops.certificate) old.reached) stops.in_order stops.met
      (subst (λ (u : Result C Text). AnswersSaid rules feed old u new) same step)

  -- ---- the end

  abbrev IsThrough : Stand → TextLines → Exit → Type 0
  IsThrough stand rest exit = AllAnswered feed rest × (exit ≡ said_exit (count_no stand.answers))

  record IsAtFeedLine (stand : Stand) (rest : TextLines) (exit : Exit) : Type 0 where
    number : ℕ
    why : FeedCause
    exit_is : exit ≡ BadFeed number why
    bad : feed.bad ≡ Some (record { line = number; cause = bad_cause why })
    stops : StopsAt rules feed stand rest.lines rest.ending

  record IsAtCertificateLine (stand : Stand) (rest : TextLines) (exit : Exit) : Type 0 where
    why : LineCause
    exit_is : exit ≡ BadCerts (length stand.answers + 1) why
    rest_is : rest ≡ ended (ending_for why)

  abbrev EndsAs : Stand → TextLines → Exit → Type 0
  EndsAs stand rest exit = IsThrough stand rest exit ⊎ (IsAtFeedLine stand rest exit ⊎ IsAtCertificateLine stand rest exit)

  ends_as : (stand : Stand) (rest : TextLines) (exit : Exit) → EndsWithRest rules feed stand rest exit → EndsAs stand rest exit
  ends_as stand rest Done (all, none) = inl (all, ap said_exit (sym none))
  ends_as stand rest (SaidNo count) (all, is, some) = inl (all, said_is count some ∙ ap said_exit is)
  ends_as stand rest Usage h = elim h [ ]
  ends_as stand rest (BadFeed number why) (bad, stops) = inr (inl (record { number = number; why = why; exit_is = refl; bad = bad; stops = stops }))
  ends_as stand rest (OpenFault slot) h = elim h [ ]
  ends_as stand rest (ReadFault slot) h = elim h [ ]
  ends_as stand rest (WriteFault slot) h = elim h [ ]
  ends_as stand rest NoMemory h = elim h [ ]
  ends_as stand rest (BadPositions number why) h = elim h [ ]
  ends_as stand rest (BadCerts number why) (is, rest_is) = inr (inr (record { why = why; exit_is = ap (λ (n : ℕ). BadCerts n why) is; rest_is = rest_is }))

  through_not_feed : (stand : Stand) (rest : TextLines) (a b : Exit) → IsThrough stand rest a → IsAtFeedLine stand rest b → ⊥
  through_not_feed stand rest a b (all, is) at =
      let none = all.no_bad in
      let some = at.bad in
      cc

  through_not_certificate : (stand : Stand) (rest : TextLines) (a b : Exit) → IsThrough stand rest a → IsAtCertificateLine stand rest b → ⊥
  through_not_certificate stand rest a b (all, is) at = not_at_end at.why (ap (λ (t : TextLines). t.ending) (sym at.rest_is ∙ all.no_line))

  feed_not_certificate : (stand : Stand) (rest : TextLines) (a b : Exit) → IsAtFeedLine stand rest a → IsAtCertificateLine stand rest b → ⊥
  feed_not_certificate stand rest a b at other =
      not_at_end other.why (subst (λ (t : TextLines). StopsAt rules feed stand t.lines t.ending) other.rest_is at.stops)

  feed_one : (stand : Stand) (rest : TextLines) (a b : Exit) → IsAtFeedLine stand rest a → IsAtFeedLine stand rest b → a ≡ b
  feed_one stand rest a b h k =
      let same = same_bad feed.bad feed.bad (record { line = h.number; cause = bad_cause h.why }) (record { line = k.number; cause = bad_cause k.why }) h.bad k.bad in
      let why : h.why ≡ k.why = cause_one h.why k.why (ap (λ (l : BadLine). l.cause) same) in
      h.exit_is ∙ ap (λ (n : ℕ). BadFeed n h.why) (ap (λ (l : BadLine). l.line) same) ∙ ap (λ (w : FeedCause). BadFeed k.number w) why ∙ sym k.exit_is

  certificate_line_one : (stand : Stand) (rest : TextLines) (a b : Exit) → IsAtCertificateLine stand rest a → IsAtCertificateLine stand rest b → a ≡ b
  certificate_line_one stand rest a b h k =
      let endings : ending_for h.why ≡ ending_for k.why = ap (λ (t : TextLines). t.ending) (sym h.rest_is ∙ k.rest_is) in
      let why : h.why ≡ k.why = sym (line_of-ending h.why) ∙ ap line_of endings ∙ line_of-ending k.why in
      h.exit_is ∙ ap (λ (w : LineCause). BadCerts (length stand.answers + 1) w) why ∙ sym k.exit_is

  ends_one : (stand : Stand) (rest : TextLines) (a b : Exit) → EndsAs stand rest a → EndsAs stand rest b → a ≡ b
  ends_one stand rest a b (inl h) (inl k) = h.1 ∙ sym k.1
  ends_one stand rest a b (inl h) (inr (inl k)) = absurd (through_not_feed stand rest a b h k)
  ends_one stand rest a b (inl h) (inr (inr k)) = absurd (through_not_certificate stand rest a b h k)
  ends_one stand rest a b (inr (inl h)) (inl k) = absurd (through_not_feed stand rest b a k h)
  ends_one stand rest a b (inr (inl h)) (inr (inl k)) = feed_one stand rest a b h k
  ends_one stand rest a b (inr (inl h)) (inr (inr k)) = absurd (feed_not_certificate stand rest a b h k)
  ends_one stand rest a b (inr (inr h)) (inl k) = absurd (through_not_certificate stand rest b a k h)
  ends_one stand rest a b (inr (inr h)) (inr (inl k)) = absurd (feed_not_certificate stand rest b a k h)
  ends_one stand rest a b (inr (inr h)) (inr (inr k)) = certificate_line_one stand rest a b h k

  -- ---- the whole

  -- a run does not end before a line that is answered
  ends_no_earlier : (first stand next : Stand) (text : List ℕ) (texts : List (List ℕ)) (rest : TextLines) (exit : Exit) → stand ≡ first → rest.lines ≡ text ∷ texts
      → Answers rules feed first text next → EndsAs stand rest exit → ⊥
  ends_no_earlier first stand next text texts rest exit same lines step (inl (all, is)) = not_empty text texts rest.lines lines (ap (λ (t : TextLines). t.lines) all.no_line)
  ends_no_earlier first stand next text texts rest exit same lines step (inr (inl at)) =
      answered_goes_on first next text step
      (subst (λ (s : Stand). Stops rules feed s text) same (subst (λ (l : List (List ℕ)). StopsAt rules feed stand l rest.ending) lines at.stops))
  ends_no_earlier first stand next text texts rest exit same lines step (inr (inr at)) = not_empty text texts rest.lines lines (ap (λ (t : TextLines). t.lines) at.rest_is)

  same_end : (first a b : Stand) (xs ys : List (List ℕ)) (more others : TextLines) (exit other : Exit) → Along (Answers rules feed) first xs a → Along (Answers rules feed) first ys b
      → xs ++ more.lines ≡ ys ++ others.lines → more.ending ≡ others.ending → EndsWithRest rules feed a more exit → EndsWithRest rules feed b others other → (a ≡ b) × (exit ≡ other)
  same_end first a b [] [] more others exit other h k lines ending ends end =
      let stands : a ≡ b = h ∙ sym k in
      let rests : more ≡ others = same_text_lines more others lines ending in (
        stands,
        ends_one b others exit other
            (ends_as b others exit (subst (λ (s : Stand). EndsWithRest rules feed s others exit) stands (subst (λ (t : TextLines). EndsWithRest rules feed a t exit) rests ends)))
            (ends_as b others other end),
      )
  same_end first a b [] (y ∷ ys) more others exit other h (next, step, k) lines ending ends end =
      absurd (ends_no_earlier first a next y (ys ++ others.lines) more exit h lines step (ends_as a more exit ends))
  same_end first a b (x ∷ xs) [] more others exit other (next, step, h) k lines ending ends end =
      absurd (ends_no_earlier first b next x (xs ++ more.lines) others other k (sym lines) step (ends_as b others other end))
  same_end first a b (x ∷ xs) (y ∷ ys) more others exit other (s, step, h) (t, follows, k) lines ending ends end =
      let heads : x ≡ y = same_head x y (xs ++ more.lines) (ys ++ others.lines) lines in
      let next : s ≡ t = answer_one first y s t (subst (λ (l : List ℕ). Answers rules feed first l s) heads step) follows in
      same_end t a b xs ys more others exit other (subst (λ (u : Stand). Along (Answers rules feed) u xs a) next h) k
      (same_tail x y (xs ++ more.lines) (ys ++ others.lines) lines) ending ends end

  -- the exit and the text of two runs over the same lines are the same
  pub run_is_one : (certs : TextLines) (a b : Exit) (x y : Text) → Runs rules feed certs a x → Runs rules feed certs b y → (a ≡ b) × (x ≡ y)
  run_is_one certs a b x y h k =
      let both = sym h.before.are_first ∙ k.before.are_first in
      let same = same_end start h.stand k.stand h.before.lines k.before.lines h.rest k.rest a b h.before.steps k.before.steps
      (ap (λ (t : TextLines). t.lines) both) (ap (λ (t : TextLines). t.ending) both) h.ends k.ends in
      (same.1, h.text_is ∙ ap (λ (s : Stand). answers_text s.answers ++ last_line s a) same.0 ∙ ap (λ (e : Exit). answers_text k.stand.answers ++ last_line k.stand e) same.1 ∙ sym k.text_is)
