-- A run over a feed and a file of certificates is there.
use Rattle.std.proofs.Common.{◌≡◌, sym, ap, subst, refl, ℕ, zero, suc, ◌+◌, ◌⊎◌, inl, inr, Bool, true, false, List, [], ◌∷◌, ◌++◌, length, Option, Some, None, Result, Ok, Err, arith}
use Rattle.std.specs.Prelude.{codes, nat_le, nat_lt}
use Rattle.std.specs.Option.{option_map_or}
use Rattle.vx_lines.specs.TextLines.{Ending, TextLines, at_end, ended, line_then, lines_then, no_eol, too_long, too_many}
use Rattle.vx_feed.specs.Feed.{BadCause, BadLine, Reading}
use Rattle.vx_reading.specs.declared.stop.FeedCause.{FeedCause}
use Rattle.vx_reading.specs.FeedReading.{is_met}
use Rattle.vx_reading.specs.Stops.{bad_cause}
use Rattle.vx_drivers.specs.declared.exit.Exit.{Exit}
use Rattle.vx_drivers.specs.declared.exit.Exit.TheVariants.{Done, SaidNo, BadFeed, BadCerts}
use Rattle.vx_drivers.specs.declared.exit.LineCause.TheVariants as line
use Rattle.vx_drivers.specs.Along.{Along}
use Rattle.vx_drivers.specs.Answers.{answers_text, count_no, said_no}
use Rattle.vx_drivers.specs.CertificateLaws.{AnswersEach, RunIsThere}
use Rattle.vx_drivers.specs.CertificateRun.{Answers, AnswersCertificate, EndsWithRest, Rules, Stand, Stops, answered, last_line, start}
use Rattle.vx_drivers.specs.Sending.{Text}
use Rattle.vx_drivers.proofs.CauseLemmas.{cause_of}

-- a feed has this bad line
record HasBad (bad : Option BadLine) : Type 0 where
  number : ℕ
  why : FeedCause
  is : bad ≡ Some (record { line = number; cause = bad_cause why })

bad_there : (bad : BadLine) → HasBad (Some bad)
bad_there bad =
    let why = cause_of bad.cause in
    record { number = bad.line; why = why.0; is = ap (λ (c : BadCause). Some (record { line = bad.line; cause = c })) why.1 }

-- a bad line that is met is there
met_there : (number : ℕ) (bad : Option BadLine) → option_map_or (λ b. nat_le b.line number) bad false ≡ true → HasBad bad
met_there number None met = absurd (let no : ⊥ = cc in no)
met_there number (Some bad) met = bad_there bad

module _ {C : Type 0} (rules : Rules C) (feed : Reading) (each : AnswersEach rules feed) where
  -- ---- one line

  -- a line is answered, or the feed's bad line ends the run at it
  abbrev Next : Stand → List ℕ → Type 0
  Next old text = ((new : Stand) × Answers rules feed old text new) ⊎ Stops rules feed old text

  in_order_next : (old : Stand) (text : List ℕ) (c : C) → rules.ReadsAs text (Ok c) → nat_lt (rules.named c) old.reached ≡ false
      → (met : Bool) → is_met (rules.named c) feed ≡ met → Next old text
  in_order_next old text c reads in_order true met = inr (record { certificate = c; reads = reads; in_order = in_order; met = met })
  in_order_next old text c reads in_order false good =
      let judged = each.judges text c reads in
      let new = answered old judged.0 (rules.named c) in
      inl (new, (Ok c, reads, subst (λ (late : Bool). AnswersCertificate rules feed old c late new) (sym in_order) (good, judged.0, judged.1, refl)))

  certificate_next : (old : Stand) (text : List ℕ) (c : C) → rules.ReadsAs text (Ok c)
      → (late : Bool) → nat_lt (rules.named c) old.reached ≡ late → Next old text
  certificate_next old text c reads true late =
      let new = answered old (said_no (codes "order")) old.reached in
      inl (new, (Ok c, reads, subst (λ (b : Bool). AnswersCertificate rules feed old c b new) (sym late) refl))
  certificate_next old text c reads false in_order = in_order_next old text c reads in_order (is_met (rules.named c) feed) refl

  said_next : (old : Stand) (text : List ℕ) (said : Result C Text) → rules.ReadsAs text said → Next old text
  said_next old text (Ok c) reads = certificate_next old text c reads (nat_lt (rules.named c) old.reached) refl
  said_next old text (Err word) reads = inl (answered old (said_no word) old.reached, (Err word, reads, refl))

  line_next : (old : Stand) (text : List ℕ) → Next old text
  line_next old text = let said = each.reads text in said_next old text said.0 said.1

  -- ---- behind the last line

  all_said : (stand : Stand) → feed.bad ≡ None → (count : ℕ) → count ≡ count_no stand.answers → (exit : Exit) × EndsWithRest rules feed stand (ended at_end) exit
  all_said stand good zero is = (Done, (record { no_line = refl; no_bad = good }, sym is))
  all_said stand good (suc count) is = (SaidNo (suc count), (record { no_line = refl; no_bad = good }, is, omega arith))

  feed_end : (stand : Stand) (bad : Option BadLine) → feed.bad ≡ bad → (exit : Exit) × EndsWithRest rules feed stand (ended at_end) exit
  feed_end stand None good = all_said stand good (count_no stand.answers) refl
  feed_end stand (Some bad) is =
      let has = subst HasBad (sym is) (bad_there bad) in
      (BadFeed has.number has.why, (has.is, refl))

  last_end : (stand : Stand) (ending : Ending) → (exit : Exit) × EndsWithRest rules feed stand (ended ending) exit
  last_end stand at_end = feed_end stand feed.bad refl
  last_end stand too_long = (BadCerts (length stand.answers + 1) line.TooLong, (refl, refl))
  last_end stand no_eol = (BadCerts (length stand.answers + 1) line.NoEol, (refl, refl))
  last_end stand too_many = (BadCerts (length stand.answers + 1) line.TooMany, (refl, refl))

  -- ---- the whole

  -- a run goes on from here over these lines
  record RunsOn (stand : Stand) (certs : TextLines) : Type 0 where
    last : Stand
    firsts : List (List ℕ)
    rest : TextLines
    are_first : certs ≡ lines_then firsts rest
    steps : Along (Answers rules feed) stand firsts last
    exit : Exit
    ends : EndsWithRest rules feed last rest exit

  runs_at : (stand : Stand) (text : List ℕ) (texts : List (List ℕ)) (ending : Ending) → Next stand text
      → ((new : Stand) → RunsOn new (record { lines = texts; ending = ending }))
      → RunsOn stand (record { lines = text ∷ texts; ending = ending })
  runs_at stand text texts ending (inl (new, step)) on =
      let run = on new in
      record {
        last = run.last;
        firsts = text ∷ run.firsts;
        rest = run.rest;
        are_first = ap (line_then text) run.are_first;
        steps = (new, step, run.steps);
        exit = run.exit;
        ends = run.ends;
      }
  runs_at stand text texts ending (inr stops) on =
      let bad = met_there (rules.named stops.certificate) feed.bad stops.met in
      record {
        last = stand;
        firsts = [];
        rest = record { lines = text ∷ texts; ending = ending };
        are_first = refl;
        steps = refl;
        exit = BadFeed bad.number bad.why;
        ends = (bad.is, stops);
      }

  runs_on : (stand : Stand) (texts : List (List ℕ)) (ending : Ending) → RunsOn stand (record { lines = texts; ending = ending })
  runs_on stand [] ending =
      let end = last_end stand ending in
      record { last = stand; firsts = []; rest = ended ending; are_first = refl; steps = refl; exit = end.0; ends = end.1 }
  runs_on stand (text ∷ texts) ending = runs_at stand text texts ending (line_next stand text) (λ new. runs_on new texts ending)

-- a run is there
pub run_is_there : {C : Type 0} (rules : Rules C) → RunIsThere rules
run_is_there rules feed certs each =
    let run = runs_on rules feed each start certs.lines certs.ending in (
      run.exit,
      answers_text run.last.answers ++ last_line run.last run.exit,
      record {
        stand = run.last;
        rest = run.rest;
        before = record { lines = run.firsts; are_first = run.are_first; steps = run.steps };
        ends = run.ends;
        text_is = refl;
      },
    )
