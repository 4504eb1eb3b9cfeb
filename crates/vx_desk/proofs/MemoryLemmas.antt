-- The files of a desk in memory: what a search by name finds, and what adding one changes.
use Rattle.std.proofs.Common.{◌≡◌, ◌≢◌, ℕ, zero, suc, ◌+◌, ◌-◌, ◌<◌, ◌≤◌, Bool, true, false, cond, List, [], ◌∷◌, ◌++◌, length, get_or, set, drop}
use Rattle.std.proofs.Common.{Option, Some, None, MatchOption, ◌⊎◌, inl, inr, refl, sym, ◌∙◌, ap, subst, arith}
use Rattle.std.specs.Prelude.{slice_get, string_bytes, is_some}
use Rattle.std.specs.List.{position_from}
use Rattle.std.specs.Str.{bytes_eq}
use Rattle.std.proofs.lemmas.Iterator.Adapters.{position_from-zero}
use Rattle.std.proofs.lemmas.List.Quantifiers.{position-Some}
use Rattle.std.proofs.lemmas.Slice.Eq.{bytes_eq-Decides}
use Rattle.vx_desk.specs.declared.memory.MemFile.{MemFile}
use Rattle.vx_desk.specs.declared.memory.Source.{Source}
use Rattle.vx_desk.specs.declared.memory.Sink.{Sink}
use Rattle.vx_desk.specs.Memory.{held, Memory, SlotRead, SlotWritten}
use Rattle.vx_desk.specs.MemFiles.{files_of, file_at, bytes_of_file, name_of_file, place_of, IsFileAt, IsPlace, seen_source, seen_sink}

-- the test by which a file is found
abbrev is_named : List ℕ → MemFile → Bool
is_named name file = bytes_eq (string_bytes file.name) name

-- bytes that pass the test of equality are equal
same_bytes : (xs ys : List ℕ) → bytes_eq xs ys ≡ true → xs ≡ ys
same_bytes xs ys = (bytes_eq-Decides xs ys).0

-- and equal ones pass it
equal_bytes : (xs ys : List ℕ) → xs ≡ ys → bytes_eq xs ys ≡ true
equal_bytes xs ys = (bytes_eq-Decides xs ys).1

-- a test that does not hold fails
not_true : (b : Bool) → b ≢ true → b ≡ false
not_true true h = absurd (h refl)
not_true false h = refl

-- other bytes fail the test of equality
other_bytes : (xs ys : List ℕ) → xs ≢ ys → bytes_eq xs ys ≡ false
other_bytes xs ys ne = not_true (bytes_eq xs ys) (λ e. ne (same_bytes xs ys e))

-- what is known of the place at which a search from `start` on found a name
abbrev Found : List MemFile → List ℕ → ℕ → ℕ → Type 0
Found files name start at = (start ≤ at) × (held (files_of files) name ≡ Some (bytes_of_file (slice_get files (at - start)))) × (name_of_file (slice_get files (at - start)) ≡ Some name)

-- what is known of an optional place, weakened for both of its cases
match_option : (r : Option ℕ) (N M : Type 0) (P Q : ℕ → Type 0) → MatchOption r N P → (N → M) → ((at : ℕ) → P at → Q at) → MatchOption r M Q
match_option None N M P Q h none some = none h
match_option (Some at) N M P Q h none some = some at h

-- what a search from `start` on answers of a name
AnswersFrom : List MemFile → List ℕ → ℕ → Type 0
AnswersFrom files name start = MatchOption (position_from (is_named name) start files) (held (files_of files) name ≡ None) (Found files name start)

-- one file more before those that are searched
found_step : (f : MemFile) (fs : List MemFile) (name : List ℕ) (start : ℕ) (b : Bool) → is_named name f ≡ b → AnswersFrom fs name (start + 1)
    → AnswersFrom (f ∷ fs) name start
unfolding AnswersFrom
found_step f fs name start true h later = let e : start - start ≡ 0 = omega arith in rw h (omega arith, rw (h, e) refl, rw e (ap Some (same_bytes (string_bytes f.name) name h)))
found_step f fs name start false h later = rw h (match_option (position_from (is_named name) (start + 1) fs) _ _ _ _ later
    (λ none. none)
    (λ at found. let e : at - start ≡ suc (at - (start + 1)) = omega (arith, found.0) in (omega (arith, found.0), rw (h, e) found.1, rw e found.2)))

-- so it answers for all files
found_from : (files : List MemFile) (name : List ℕ) (start : ℕ) → AnswersFrom files name start
unfolding AnswersFrom
found_from [] name start = refl
found_from (f ∷ fs) name start = found_step f fs name start (is_named name f) refl (found_from fs name (start + 1))

-- a file that has a name is there
named_within : (files : List MemFile) (place : ℕ) (name : List ℕ) → name_of_file (slice_get files place) ≡ Some name → place < length files
named_within [] place name h = (cc)
named_within (f ∷ fs) zero name h = omega arith
named_within (f ∷ fs) (suc place) name h = omega (arith, named_within fs place name h)

-- a slot that is not open has no place
pub closed_place : (files : List MemFile) (place : Option ℕ) → IsPlace files place → is_some (name_of_file (file_at files place)) ≡ false → place ≡ None
closed_place files None within closed = refl
closed_place [] (Some place) within closed = absurd (omega arith)
closed_place (f ∷ fs) (Some zero) within closed = (cc)
closed_place (f ∷ fs) (Some (suc place)) within closed =
    let no : Some place ≡ None = closed_place fs (Some place) (omega (arith, within)) closed in cc

-- what a search from the first file on answers, said of the place
found_by : (files : List MemFile) (name : List ℕ) (r : Option ℕ) → place_of files name ≡ r
    → MatchOption r (held (files_of files) name ≡ None) (Found files name 0) → MatchOption r (held (files_of files) name ≡ None) (IsFileAt files name)
found_by files name None is h = h
found_by files name (Some at) is f =
    let e : at - 0 ≡ at = omega arith in
    let name_is = subst (λ n. name_of_file (slice_get files n) ≡ Some name) e f.2 in
    record {
      bytes = subst (λ n. held (files_of files) name ≡ Some (bytes_of_file (slice_get files n))) e f.1;
      name_is = name_is;
      within = named_within files at name name_is;
      first = λ k file below. (position-Some (is_named name) files at file is).2 k below;
    }

-- the place of a name, and what the file there holds
pub found : (files : List MemFile) (name : List ℕ) → MatchOption (place_of files name) (held (files_of files) name ≡ None) (IsFileAt files name)
unfolding AnswersFrom
found files name =
    found_by files name (place_of files name) refl
    (subst (λ (r : Option ℕ). MatchOption r (held (files_of files) name ≡ None) (Found files name 0)) (sym (position_from-zero (is_named name) files)) (found_from files name 0))

-- a place stays one where no file goes
pub places_kept : (old new : List MemFile) → length old ≤ length new → (place : Option ℕ) → IsPlace old place → IsPlace new place
places_kept old new le None h = tt
places_kept old new le (Some place) h = omega (arith, h)

-- a cause said in other words
pub either_cause : (E T B C : Type 0) → (E → T ⊎ C) × (T ⊎ C → E) → (T → B) × (B → T) → (E → B ⊎ C) × (B ⊎ C → E)
either_cause E T B C h same = (
  λ e. elim (h.0 e) [ inl t ↦ inl (same.0 t) | inr c ↦ inr c ],
  λ cause. h.1 (elim cause [ inl b ↦ inl (same.1 b) | inr c ↦ inr c ]),
)

-- one file more before those that a file is put behind
pushed_step : (f : MemFile) (fs : List MemFile) (file : MemFile) (name : List ℕ) (b : Bool) → is_named name f ≡ b
    → held (files_of (f ∷ fs)) name ≡ None → (held (files_of fs) name ≡ None → held (files_of (fs ++ file ∷ [])) name ≡ Some file.bytes.items)
    → held (files_of ((f ∷ fs) ++ file ∷ [])) name ≡ Some file.bytes.items
pushed_step f fs file name true h none later = let clash = rw h at none in cc
pushed_step f fs file name false h none later = rw h (later (rw h at none))

-- adding a file behind the others
pub held-pushed : (files : List MemFile) (file : MemFile) (name : List ℕ) → string_bytes file.name ≡ name → held (files_of files) name ≡ None
    → held (files_of (files ++ file ∷ [])) name ≡ Some file.bytes.items
held-pushed [] file name is none = rw (equal_bytes (string_bytes file.name) name is) refl
held-pushed (f ∷ fs) file name is none = pushed_step f fs file name (is_named name f) refl none (held-pushed fs file name is)

-- the other names hold what they did
pub held-pushed_other : (files : List MemFile) (file : MemFile) (name other : List ℕ) → string_bytes file.name ≡ name → other ≢ name
    → held (files_of (files ++ file ∷ [])) other ≡ held (files_of files) other
held-pushed_other [] file name other is ne = rw (other_bytes (string_bytes file.name) other (λ e. ne (sym e ∙ is))) refl
held-pushed_other (f ∷ fs) file name other is ne = ap (λ rest. cond (is_named other f) (Some f.bytes.items) rest) (held-pushed_other fs file name other is ne)

-- putting a file in the place of the first with its name
pub held-set : (files : List MemFile) (place : ℕ) (file : MemFile) (name : List ℕ) → string_bytes file.name ≡ name → place < length files
    → ((k : ℕ) → k < place → is_named name (get_or files k file) ≡ false) → held (files_of (set files place file)) name ≡ Some file.bytes.items
held-set [] place file name is lt before = absurd (omega arith)
held-set (f ∷ fs) zero file name is lt before = rw (equal_bytes (string_bytes file.name) name is) refl
held-set (f ∷ fs) (suc place) file name is lt before =
    let first : is_named name f ≡ false = before 0 (omega arith) in
    rw first (held-set fs place file name is (omega arith) (λ k le. before (suc k) (omega arith)))

-- a file put in the place of one with its name leaves what other names hold
pub held-set_other : (files : List MemFile) (place : ℕ) (file : MemFile) (name other : List ℕ) → string_bytes file.name ≡ name
    → name_of_file (slice_get files place) ≡ Some name → other ≢ name → held (files_of (set files place file)) other ≡ held (files_of files) other
held-set_other [] place file name other is was ne = refl
held-set_other (f ∷ fs) zero file name other is was ne =
    let old : string_bytes f.name ≡ name = (cc) in
    rw (other_bytes (string_bytes file.name) other (λ e. ne (sym e ∙ is)), other_bytes (string_bytes f.name) other (λ e. ne (sym e ∙ old))) refl
held-set_other (f ∷ fs) (suc place) file name other is was ne = ap (λ rest. cond (is_named other f) (Some f.bytes.items) rest) (held-set_other fs place file name other is was ne)

-- two desks whose parts are equal are equal
pub same_memory : (a b : Memory) → a.room ≡ b.room → a.most ≡ b.most → a.fails ≡ b.fails → a.calls ≡ b.calls → a.files ≡ b.files → a.feed ≡ b.feed
    → a.side ≡ b.side → a.out ≡ b.out → a.certs ≡ b.certs → a ≡ b
same_memory a b p q r s t u v w x = λ i. record { room = p i; most = q i; fails = r i; calls = s i; files = t i; feed = u i; side = v i; out = w i; certs = x i }

-- a slot that is not open does not look at the files
pub closed_source : (old new : List MemFile) (source : Source) (seen : SlotRead) → seen_source old source ≡ seen → IsPlace old source.file
    → is_some seen.opened ≡ false → seen_source new source ≡ seen
closed_source old new source seen is within closed =
    let e : source.file ≡ None = closed_place old source.file within (ap (λ (s : SlotRead). is_some s.opened) is ∙ closed) in
    let look : List MemFile → Option ℕ → SlotRead = λ files place. record { opened = name_of_file (file_at files place); left = drop source.read (bytes_of_file (file_at files place)); failures = source.failures } in
    ap (look new) e ∙ (sym (ap (look old) e) ∙ is)

-- a sink with no file does not look at the files
pub closed_sink_at : (old new : List MemFile) (sink : Sink) (seen : SlotWritten) → seen_sink old sink ≡ seen → sink.file ≡ None → seen_sink new sink ≡ seen
closed_sink_at old new sink seen is e =
    let look : List MemFile → Option ℕ → SlotWritten = λ files place. record { opened = name_of_file (file_at files place); sent = sink.bytes.items; failures = sink.failures } in
    ap (look new) e ∙ (sym (ap (look old) e) ∙ is)

-- nor does a slot that is written and not open
pub closed_sink : (old new : List MemFile) (sink : Sink) (seen : SlotWritten) → seen_sink old sink ≡ seen → IsPlace old sink.file
    → is_some seen.opened ≡ false → seen_sink new sink ≡ seen
closed_sink old new sink seen is within closed =
    closed_sink_at old new sink seen is (closed_place old sink.file within (ap (λ (s : SlotWritten). is_some s.opened) is ∙ closed))
