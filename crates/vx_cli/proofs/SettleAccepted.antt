-- `check` says yes to the certificate that `settle` wrote.
use Rattle.std.proofs.Common.{◌≡◌, ◌∙◌, sym, ap, subst, refl, ℕ, ℤ, ◌-◌, ◌≤◌, Bool, false, List, [], ◌∷◌, ◌++◌, length, take, Option, Some, None, Ok, arith, append-nil}
use Rattle.std.specs.Prelude.{nat_lt, codes, is_some, slice_get}
use Rattle.std.proofs.lemmas.Bool.Decides.{nat_tests}
use Rattle.std.proofs.lemmas.List.Elements.{All-nil, All-cons}
use Rattle.vx_lines.specs.TextLines.{TextLines, at_end, at_most, ended, lines_of}
use Rattle.vx_lines.specs.Cut.{IsLine}
use Rattle.vx_lines.proofs.CutLemmas.{cut_is_lines}
use Rattle.vx_lines.proofs.LineLemmas.{lines_of_nothing}
use Rattle.vx_lines.proofs.MostLemmas.{at_most_all, at_most_ended}
use Rattle.vx_clock.specs.Clock.{clock_text}
use Rattle.vx_clock.specs.declared.limits.TheConstants.{INDEX_DAYS, INDEX_WINDOW}
use Rattle.vx_feed.specs.declared.events.Event.{Event}
use Rattle.vx_feed.specs.declared.events.Event.TheVariants as event
use Rattle.vx_feed.specs.Feed.{BadLine, Reading, reading_of}
use Rattle.vx_feed.specs.Opening.{opening_line, opening_time}
use Rattle.vx_cert.specs.declared.certificate.CertBody.{CertBody}
use Rattle.vx_cert.specs.declared.certificate.CertBody.TheVariants.{K0, Single, Index, Soq}
use Rattle.vx_cert.specs.declared.certificate.Certificate.{Certificate}
use Rattle.vx_cert.specs.Written.{certificate_line}
use Rattle.vx_formula.specs.Index.{OneTerm}
use Rattle.vx_formula.specs.Refusal.{no_opening}
use Rattle.vx_claims.specs.Answers.{PublishesOpening, StatesOpening}
use Rattle.vx_claims.specs.Means.{BodyMeans, Means}
use Rattle.vx_claims.specs.Seen.{IsOpeningAt}
use Rattle.vx_claims.proofs.OpeningPlaces.{opening_stands}
use Rattle.vx_soq.specs.declared.answer.OpeningAnswer.{OpeningAnswer}
use Rattle.vx_soq.specs.declared.answer.OpeningAnswer.TheVariants.{Published, Refused, UndecidedForward, UndecidedCents}
use Rattle.vx_soq.specs.Lawful.{IsLawfulOpening}
use Rattle.vx_drivers.specs.declared.exit.Exit.{Exit}
use Rattle.vx_drivers.specs.declared.exit.Exit.TheVariants.{Done}
use Rattle.vx_drivers.specs.declared.limits.TheConstants.{CERT_LINES_MAX, CERT_LINE_LEN_MAX}
use Rattle.vx_drivers.specs.Answers.{said_yes, answers_text, end_text}
use Rattle.vx_drivers.specs.CertificateRun.{Answers, AnswersCertificate, Stand, certificates_of, start}
use Rattle.vx_drivers.specs.PositionRun.{RunsUnlessBad, positions_of}
use Rattle.vx_cli.specs.Accepted.{OpeningIsAccepted, SettleIsAccepted, yes_to_opening}
use Rattle.vx_cli.specs.CheckRuns.{Checks, IsAnswerTo, check_rules, stated_text, yes_words}
use Rattle.vx_drivers.specs.Sending.{Text}
use Rattle.vx_cli.specs.OutputLines.{cents_text}
use Rattle.vx_cli.specs.ReadBack.{IsReadFromLine, OpeningCertificateIsRead}
use Rattle.vx_cli.specs.SettleRuns.{AnsweredOpening, settle_rules}
use Rattle.vx_cli.specs.SettleText.{opening_certificate_text}
use Rattle.vx_cli.proofs.CheckIsOne.{just_checks}
use Rattle.vx_cli.proofs.PublishedMeans.{figure_stated}
use Rattle.vx_cli.proofs.ReplayAccepted.{not_met, readable}
use Rattle.vx_cli.proofs.UpToOpening.{feed_begins, publishes_up_to}

-- ---- a published opening is a certificate that means what it states

abbrev Publishes : List Event → ℕ → ℕ → ℕ → ℤ → ℤ → Certificate → Type 0
Publishes events line time cents lo hi c = PublishesOpening events line time cents lo hi c

body_means : (events : List Event) (line time cents : ℕ) (lo hi : ℤ) (c : Certificate) (body : CertBody) → StatesOpening body cents lo hi
    → Publishes events line time cents lo hi c → (of_line of_time : ℕ) → IsOpeningAt events of_line of_time
    → BodyMeans INDEX_DAYS INDEX_WINDOW events of_line of_time body
body_means events line time cents lo hi c (K0 x pair k0) states h of_line of_time place = absurd states
body_means events line time cents lo hi c (Single term figure) states h of_line of_time place = absurd states
body_means events line time cents lo hi c (Index days near next figure) states h of_line of_time place = absurd states
body_means events line time cents lo hi c (Soq term figure) states h of_line of_time place = record {
  is_opening = place;
  term = h.term;
  is_basis = h.is_basis;
  is_figure = figure_stated (OneTerm h.term) figure cents lo hi states h.is_figure;
  none_refuses = h.none_refuses;
}

published_means : (events : List Event) (line time cents : ℕ) (lo hi : ℤ) (c : Certificate) → Publishes events line time cents lo hi c → Means events c
published_means events line time cents lo hi c h =
    let named : IsOpeningAt events c.line c.time =
    subst (λ (l : ℕ). IsOpeningAt events l c.time) (sym h.names_line.line_is)
    (subst (λ (t : ℕ). IsOpeningAt events line t) (sym h.names_line.time_is) h.is_opening) in
    body_means events line time cents lo hi c c.body h.states h c.line c.time named

states_text : (body : CertBody) (cents : ℕ) (lo hi : ℤ) → StatesOpening body cents lo hi → stated_text body ≡ cents_text cents
states_text (K0 x pair k0) cents lo hi h = absurd h
states_text (Single term figure) cents lo hi h = absurd h
states_text (Index days near next figure) cents lo hi h = absurd h
states_text (Soq term figure) cents lo hi h = ap cents_text h.cents_are

words_are : (events : List Event) (line time cents : ℕ) (lo hi : ℤ) (c : Certificate) → Publishes events line time cents lo hi c
    → clock_text time ++ codes "," ++ cents_text cents ≡ yes_words c
words_are events line time cents lo hi c h =
    sym (ap (λ t. clock_text t ++ codes "," ++ stated_text c.body) h.names_line.time_is
    ∙ ap (λ t. clock_text time ++ codes "," ++ t) (states_text c.body cents lo hi h.states))

-- ---- the minute of the opening

abbrev minute_at : Option Event → ℕ
minute_at (Some (event.Opening time)) = time
minute_at _ = 0

minute_of : (o : Option ℕ) (events : List Event) (line time cents : ℕ) (lo hi : ℤ) (c : Certificate) → opening_time events ≡ o → line ≡ opening_line events
    → Publishes events line time cents lo hi c → opening_time events ≡ Some time
minute_of None events line time cents lo hi c is at h = absurd (h.none_refuses no_opening (ap is_some is))
minute_of (Some t) events line time cents lo hi c is at h =
    let there : slice_get events (line - 1) ≡ Some (event.Opening t) =
    subst (λ (l : ℕ). slice_get events (l - 1) ≡ Some (event.Opening t)) (sym at) (opening_stands events t is).1 in
    let times : t ≡ time = ap minute_at (sym there ∙ h.is_opening.1) in
    is ∙ ap (λ (m : ℕ). Some m) times

-- ---- the run over the one certificate

abbrev one_line : List ℕ → TextLines
one_line line = record { lines = line ∷ []; ending = at_end }

lines_are : (line certs : List ℕ) → IsLine CERT_LINE_LEN_MAX line → certs ≡ line ++ 10 ∷ [] → certificates_of certs ≡ one_line line
lines_are line certs is same =
    let cut : lines_of CERT_LINE_LEN_MAX certs ≡ one_line line = cut_is_lines CERT_LINE_LEN_MAX certs (one_line line) (record {
      rest = [];
      whole = same ∙ sym (append-nil (line ++ 10 ∷ []));
      lines = All-cons (IsLine CERT_LINE_LEN_MAX) line [] is (All-nil (IsLine CERT_LINE_LEN_MAX));
      ends = refl;
    }) in
    let few : length (line ∷ []) ≤ CERT_LINES_MAX = omega arith in
    ap (at_most CERT_LINES_MAX) cut ∙ at_most_all CERT_LINES_MAX (one_line line) few

no_certificate_lines : (certs : List ℕ) → certs ≡ [] → certificates_of certs ≡ ended at_end
no_certificate_lines certs same =
    ap certificates_of same ∙ ap (at_most CERT_LINES_MAX) (lines_of_nothing CERT_LINE_LEN_MAX) ∙ at_most_ended CERT_LINES_MAX at_end

-- over no certificate there is nothing to say
checks_none : (feed certs : List ℕ) → (reading_of feed).bad ≡ None → certs ≡ [] → Checks feed certs Done (answers_text [] ++ end_text [])
checks_none feed certs none same = record {
  stand = start;
  rest = ended at_end;
  before = record { lines = []; are_first = no_certificate_lines certs same; steps = refl };
  ends = (record { no_line = refl; no_bad = none }, refl);
  text_is = refl;
}

checks_one : (feed certs : List ℕ) (c : Certificate) (words : Text) → (reading_of feed).bad ≡ None → IsReadFromLine c → certs ≡ certificate_line c ++ 10 ∷ []
    → IsAnswerTo (take c.line (reading_of feed).events) c (said_yes words)
    → Checks feed certs Done (answers_text (said_yes words ∷ []) ++ end_text (said_yes words ∷ []))
checks_one feed certs c words none back same verdict =
    let reading : Reading = reading_of feed in
    let in_order : nat_lt c.line 0 ≡ false = grind (arith, nat_tests) in
    let new : Stand = record { answers = said_yes words ∷ []; reached = c.line } in
    let answered_so : AnswersCertificate check_rules reading start c false new = (not_met c.line reading none, said_yes words, verdict, refl) in
    let step : Answers check_rules reading start (certificate_line c) new =
    (Ok c, back.reads, subst (λ (b : Bool). AnswersCertificate check_rules reading start c b new) (sym in_order) answered_so) in
    record {
      stand = new;
      rest = ended at_end;
      before = record {
        lines = certificate_line c ∷ [];
        are_first = lines_are (certificate_line c) certs (readable (certificate_line c) back.is_line) same;
        steps = (new, step, refl);
      };
      ends = (record { no_line = refl; no_bad = none }, refl);
      text_is = refl;
    }

-- ---- the whole

abbrev yes_text : AnsweredOpening → Text
yes_text a = answers_text (yes_to_opening a) ++ end_text (yes_to_opening a)

abbrev SaysYes : List ℕ → Text → Option ℕ → OpeningAnswer → Type 0
SaysYes feed certs time answer = Checks feed certs Done (yes_text (record { time = time; answer = answer }))

opening_checks : (feed certs : List ℕ) (time : Option ℕ) (answer : OpeningAnswer) → (reading_of feed).bad ≡ None → time ≡ opening_time (reading_of feed).events
    → IsLawfulOpening (reading_of feed).events answer → OpeningCertificateIsRead answer → certs ≡ opening_certificate_text answer → SaysYes feed certs time answer
opening_checks feed certs time (Refused reason) none times lawful back same = checks_none feed certs none same
opening_checks feed certs time (UndecidedForward strike lo hi) none times lawful back same = checks_none feed certs none same
opening_checks feed certs time (UndecidedCents lo hi) none times lawful back same = checks_none feed certs none same
opening_checks feed certs time (Published figure) none times (minute, publishes) back same =
    let events = (reading_of feed).events in
    let c = figure.certificate in
    let line : ℕ = opening_line events in
    let minutes : opening_time events ≡ Some minute =
    minute_of (opening_time events) events line minute figure.cents figure.lo figure.hi c refl refl publishes in
    let clocks : time ≡ Some minute = times ∙ minutes in
    let part : List Event = take line events in
    let seen = publishes_up_to events minute figure.cents figure.lo figure.hi c (feed_begins feed) publishes in
    let words : Text = clock_text minute ++ codes "," ++ cents_text figure.cents in
    let verdict : IsAnswerTo part c (said_yes words) =
    (seen.accepted, published_means part line minute figure.cents figure.lo figure.hi c seen, words_are part line minute figure.cents figure.lo figure.hi c seen) in
    let at_line : IsAnswerTo (take c.line events) c (said_yes words) =
    subst (λ (l : ℕ). IsAnswerTo (take l events) c (said_yes words)) (sym publishes.names_line.line_is) verdict in
    subst (λ (t : Option ℕ). SaysYes feed certs t (Published figure)) (sym clocks) (checks_one feed certs c words none back same at_line)

settled : (feed certs : List ℕ) (positions : List ℕ) (bad : Option BadLine) (exit : Exit) (out : Text) → bad ≡ None → (reading_of feed).bad ≡ None
    → RunsUnlessBad settle_rules bad (reading_of feed).events (positions_of positions) exit out certs → OpeningIsAccepted feed certs
settled feed certs positions (Some b) exit out is none run = absurd (let no : ⊥ = cc in no)
settled feed certs positions None exit out is none run = record {
  answer = run.answer;
  is_opening = run.is_opening.0;
  certs_are = run.certs_are;
  checks = just_checks feed certs (yes_text run.answer)
      (opening_checks feed certs run.answer.time run.answer.answer none run.is_opening.0.time_is run.is_opening.0.is_lawful run.is_opening.1 run.certs_are);
}

pub settle_is_accepted : SettleIsAccepted
settle_is_accepted feed positions exit out certs run none = settled feed certs positions (reading_of feed).bad exit out none none run
