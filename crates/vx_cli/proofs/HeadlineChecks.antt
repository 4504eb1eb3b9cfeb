-- Each yes of `check` is true.
use Rattle.std.proofs.Common.{◌≡◌, ◌∙◌, sym, ap, subst, refl, ◌⊎◌, inl, inr, Bool, true, false, List, [], ◌∷◌, ◌++◌, length, Result, Ok, Err, arith}
use Rattle.std.proofs.Common.{append_assoc, append-nil}
use Rattle.std.specs.Prelude.{codes, nat_lt, take}
use Rattle.vx_lines.specs.TextLines.{TextLines}
use Rattle.vx_feed.specs.Feed.{Reading}
use Rattle.vx_cert.specs.declared.certificate.Certificate.{Certificate}
use Rattle.vx_cert.specs.Reading.{ReadsAs}
use Rattle.vx_reading.specs.FeedReading.{is_met}
use Rattle.vx_drivers.specs.declared.exit.Exit.{Exit}
use Rattle.vx_drivers.specs.declared.exit.Exit.TheVariants.{Done, SaidNo, Usage, BadFeed, OpenFault, ReadFault, WriteFault, NoMemory, BadPositions, BadCerts}
use Rattle.vx_drivers.specs.Along.{Along}
use Rattle.vx_drivers.specs.Answers.{Answer, said_yes, said_no, answers_text, end_text}
use Rattle.vx_drivers.specs.CertificateRun.{Answers, AnswersCertificate, AnswersSaid, CutsRun, EndsWithRest, Runs, RunsIf, Stand, StandsBefore, last_line, start}
use Rattle.vx_drivers.specs.Exits.{is_cut}
use Rattle.vx_drivers.specs.Sending.{Text}
use Rattle.vx_cli.specs.CheckRuns.{IsAnswerTo, ReadsOrSays, check_rules}
use Rattle.vx_cli.specs.Headline.{AreOfLines, ChecksTruly, IsTrueAnswer}
use Rattle.vx_cli.proofs.HeadlineLines.{cut_not_done, last_either, of_more_lines}

module _ (feed : Reading) where
  -- ---- one line

  -- a line gets one answer more, and it is true
  abbrev AddsOne : Stand → Text → Stand → Type 0
  AddsOne old line new = (a : Answer) × (new.answers ≡ old.answers ++ a ∷ []) × IsTrueAnswer feed line a

  verdict_true : (line : Text) (c : Certificate) (a : Answer) → ReadsAs line (Ok c) → is_met c.line feed ≡ false
      → IsAnswerTo (take c.line feed.events) c a → IsTrueAnswer feed line a
  verdict_true line c (said_yes words) reads good (accepts, means, is) =
      record { certificate = c; is_read = reads; none_bad = good; accepted = accepts; means = means; words_are = is }
  verdict_true line c (said_no word) reads good (test, first, is) = inr (inr (test, is))

  certificate_true : (old new : Stand) (line : Text) (c : Certificate) (late : Bool) → ReadsAs line (Ok c)
      → AnswersCertificate check_rules feed old c late new → AddsOne old line new
  certificate_true old new line c true reads is = (said_no (codes "order"), ap (λ (s : Stand). s.answers) is, inl (inl refl))
  certificate_true old new line c false reads (good, a, judges, is) =
      (a, ap (λ (s : Stand). s.answers) is, verdict_true line c a reads good judges)

  said_true : (old new : Stand) (line : Text) (said : Result Certificate Text) → ReadsOrSays line said
      → AnswersSaid check_rules feed old said new → AddsOne old line new
  said_true old new line (Ok c) reads h = certificate_true old new line c (nat_lt c.line old.reached) reads h
  said_true old new line (Err word) (inl (reads, word_is)) is =
      (said_no word, ap (λ (s : Stand). s.answers) is, inl (inr word_is))
  said_true old new line (Err word) (inr (n, reads, word_is)) is =
      (said_no word, ap (λ (s : Stand). s.answers) is, inr (inl (n, word_is)))

  line_true : (old new : Stand) (line : Text) → Answers check_rules feed old line new → AddsOne old line new
  line_true old new line (said, reads, h) = said_true old new line said reads h

  -- ---- all lines

  -- the lines get as many answers more, and these are true
  record AddsAll (lines : List Text) (old new : List Answer) : Type 0 where
    added : List Answer
    new_is : new ≡ old ++ added
    are_true : AreOfLines (IsTrueAnswer feed) lines added
    as_many : length added ≡ length lines

  adds_more : (line : Text) (lines : List Text) (old next new : Stand) → AddsOne old line next → AddsAll lines next.answers new.answers
      → AddsAll (line ∷ lines) old.answers new.answers
  adds_more line lines old next new (a, is, true_) more =
      let n = more.as_many in
      record {
        added = a ∷ more.added;
        new_is = more.new_is ∙ ap (λ (xs : List Answer). xs ++ more.added) is ∙ append_assoc old.answers (a ∷ []) more.added;
        are_true = (true_, more.are_true);
        as_many = omega (arith, n);
      }

  lines_true : (lines : List Text) (old new : Stand) → Along (Answers check_rules feed) old lines new → AddsAll lines old.answers new.answers
  lines_true [] old new h =
      record { added = []; new_is = ap (λ (s : Stand). s.answers) h ∙ sym (append-nil old.answers); are_true = tt; as_many = refl }
  lines_true (line ∷ lines) old new (next, step, h) =
      adds_more line lines old next new (line_true old next line step) (lines_true lines next new h)

  -- the answers of a run are those of first lines
  run_true : (certs : TextLines) (stand : Stand) (rest : TextLines) → StandsBefore check_rules feed certs stand rest
      → AreOfLines (IsTrueAnswer feed) certs.lines stand.answers
  run_true certs stand rest before =
      let all = lines_true before.lines start stand before.steps in
      let of_first = subst (λ (xs : List Answer). AreOfLines (IsTrueAnswer feed) before.lines xs) (sym all.new_is) all.are_true in
      subst (λ (ls : List Text). AreOfLines (IsTrueAnswer feed) ls stand.answers) (sym (ap (λ (t : TextLines). t.lines) before.are_first))
      (of_more_lines (IsTrueAnswer feed) before.lines rest.lines stand.answers of_first)

  -- and as many as there are lines, where none is left
  run_whole : (certs : TextLines) (stand : Stand) (rest : TextLines) → StandsBefore check_rules feed certs stand rest → rest.lines ≡ []
      → length stand.answers ≡ length certs.lines
  run_whole certs stand rest before none =
      let all = lines_true before.lines start stand before.steps in
      ap (λ (xs : List Answer). length xs) all.new_is ∙ all.as_many
      ∙ ap (λ (ls : List Text). length ls)
      (sym (ap (λ (t : TextLines). t.lines) before.are_first ∙ ap (λ (ls : List Text). before.lines ++ ls) none ∙ append-nil before.lines))

  -- ---- a run

  cut_true : (certs : TextLines) (exit : Exit) (sent : Text) → is_cut exit ≡ true → CutsRun check_rules feed certs sent exit
      → ChecksTruly feed certs.lines exit sent
  cut_true certs exit sent cut h =
      let gives = h.part.gives in
      record {
        answers = gives.stand.answers;
        are_true = run_true certs gives.stand gives.rest gives.before;
        last = gives.last;
        last_is = last_either gives.last (end_text gives.stand.answers) gives.last_is;
        begins = (h.part.more, sym gives.text_is);
        done = λ done. absurd (cut_not_done exit cut done);
      }

  last_of : (stand : Stand) (exit : Exit) → (last_line stand exit ≡ []) ⊎ (last_line stand exit ≡ end_text stand.answers)
  last_of stand Done = inr refl
  last_of stand (SaidNo count) = inr refl
  last_of stand Usage = inl refl
  last_of stand (BadFeed line cause) = inl refl
  last_of stand (OpenFault slot) = inl refl
  last_of stand (ReadFault slot) = inl refl
  last_of stand (WriteFault slot) = inl refl
  last_of stand NoMemory = inl refl
  last_of stand (BadPositions line cause) = inl refl
  last_of stand (BadCerts line cause) = inl refl

  ended_true : (certs : TextLines) (exit : Exit) (sent : Text) → Runs check_rules feed certs exit sent → ChecksTruly feed certs.lines exit sent
  ended_true certs exit sent h =
      let text = answers_text h.stand.answers ++ last_line h.stand exit in
      record {
        answers = h.stand.answers;
        are_true = run_true certs h.stand h.rest h.before;
        last = last_line h.stand exit;
        last_is = last_of h.stand exit;
        begins = ([], sym h.text_is ∙ sym (append-nil sent));
        done = λ done.
            let ends : EndsWithRest check_rules feed h.stand h.rest Done = subst (λ (e : Exit). EndsWithRest check_rules feed h.stand h.rest e) done h.ends in (
              run_whole certs h.stand h.rest h.before (ap (λ (t : TextLines). t.lines) ends.0.no_line),
              ends.1,
              h.text_is ∙ ap (λ (e : Exit). answers_text h.stand.answers ++ last_line h.stand e) done,
            );
      }

  check_by : (certs : TextLines) (exit : Exit) (sent : Text) (cut : Bool) → is_cut exit ≡ cut → RunsIf check_rules feed certs sent exit cut
      → ChecksTruly feed certs.lines exit sent
  check_by certs exit sent true cut h = cut_true certs exit sent cut h
  check_by certs exit sent false cut h = ended_true certs exit sent h

  -- what a run of `check` sends is true
  pub checks_truly : (certs : TextLines) (exit : Exit) (sent : Text) → RunsIf check_rules feed certs sent exit (is_cut exit)
      → ChecksTruly feed certs.lines exit sent
  checks_truly certs exit sent h = check_by certs exit sent (is_cut exit) refl h
