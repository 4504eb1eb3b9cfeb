-- What `clap` makes of the words after a command's name.
use Rattle.std.proofs.Common.{◌≡◌, ◌≢◌, ◌==◌, ◌&&◌, refl, true, false, not, Bool, List, [], ◌∷◌, Option, Some, None, codes, inl, inr, option_map, Bor, subst}
use Rattle.std.specs.List.{list_all}
use Rattle.std.specs.Option.{option_zip}
use Rattle.clap.specs.Words.{HasKind, IsAmong, fault_of, first_of, kind_of, matches_of}
use Rattle.clap.specs.declared.error.Error.{Error}
use Rattle.clap.specs.declared.error.kind.ErrorKind.{ErrorKind}
use Rattle.clap.specs.declared.error.kind.ErrorKind.TheVariants.{OutOfMemory}
use Rattle.clap.proofs.OnLiterals.{clap_on_literals}
use Rattle.vx_drivers.specs.Sending.{Text}
use Rattle.vx_cli.specs.Operands.{all_three, three_operand_app, two_operand_app}
use Rattle.vx_cli.specs.Words.{is_plain_word, three_of, two_of}

not-true : (b : Bool) → not b ≡ true → b ≡ false
not-true true h = cc
not-true false h = refl

and-left : (a b : Bool) → (a && b) ≡ true → a ≡ true
and-left true b h = refl
and-left false b h = cc

pub and-right : (a b : Bool) → (a && b) ≡ true → b ≡ true
and-right true b h = h
and-right false b h = cc

abbrev pub first_two : List Text → Option (Text × Text)
first_two words = let rows = matches_of two_operand_app words in
    option_zip (first_of (codes "first") rows) (first_of (codes "second") rows)

fault-two : (a b : Text) → is_plain_word a ≡ true → is_plain_word b ≡ true
    → fault_of two_operand_app (a ∷ b ∷ []) ≡ []
unfolding clap_on_literals
fault-two (x ∷ xs) (y ∷ ys) hx hy =
    let ex : (x == 45) ≡ false = not-true (x == 45) hx in
    let ey : (y == 45) ≡ false = not-true (y == 45) hy in
    simp (ex, ey) refl
fault-two [] b hx hy = cc
fault-two (x ∷ xs) [] hx hy = cc

rows-two : (a b : Text) → is_plain_word a ≡ true → is_plain_word b ≡ true
    → first_two (a ∷ b ∷ []) ≡ Some (a, b)
unfolding clap_on_literals
rows-two (x ∷ xs) (y ∷ ys) hx hy =
    let ex : (x == 45) ≡ false = not-true (x == 45) hx in
    let ey : (y == 45) ≡ false = not-true (y == 45) hy in
    simp (ex, ey) refl
rows-two [] b hx hy = cc
rows-two (x ∷ xs) [] hx hy = cc

fault-none : fault_of two_operand_app [] ≢ []
unfolding clap_on_literals
fault-none = λ h. cc

fault-one : (a : Text) → is_plain_word a ≡ true → fault_of two_operand_app (a ∷ []) ≢ []
unfolding clap_on_literals
fault-one (x ∷ xs) hx =
    let ex : (x == 45) ≡ false = not-true (x == 45) hx in
    simp (ex) (λ h. cc)
fault-one [] hx = cc

fault-more : (a b c : Text) (rest : List Text) → is_plain_word a ≡ true → is_plain_word b ≡ true → is_plain_word c ≡ true
    → fault_of two_operand_app (a ∷ b ∷ c ∷ rest) ≢ []
unfolding clap_on_literals
fault-more (x ∷ xs) (y ∷ ys) (z ∷ zs) rest hx hy hz =
    let ex : (x == 45) ≡ false = not-true (x == 45) hx in
    let ey : (y == 45) ≡ false = not-true (y == 45) hy in
    let ez : (z == 45) ≡ false = not-true (z == 45) hz in
    simp (ex, ey, ez) (λ h. cc)
fault-more [] b c rest hx hy hz = cc
fault-more (x ∷ xs) [] c rest hx hy hz = cc
fault-more (x ∷ xs) (y ∷ ys) [] rest hx hy hz = cc

-- `clap` takes the words only where there are just two, and then gives them
pub taken-two : (words : List Text) → list_all is_plain_word words ≡ true
    → fault_of two_operand_app words ≡ [] → first_two words ≡ two_of words
taken-two [] plain none = absurd (fault-none none)
taken-two (a ∷ []) plain none = absurd (fault-one a (and-left _ _ plain) none)
taken-two (a ∷ b ∷ []) plain none =
    rows-two a b (and-left _ _ plain) (and-left _ _ (and-right (is_plain_word a) _ plain))
taken-two (a ∷ b ∷ c ∷ rest) plain none =
    let more = and-right (is_plain_word a) _ plain in
    let last = and-right (is_plain_word b) _ more in
    absurd (fault-more a b c rest (and-left _ _ plain) (and-left _ _ more) (and-left _ _ last) none)

-- where `clap` refuses them for another cause than memory, there are not two
pub refused-two : (words : List Text) → list_all is_plain_word words ≡ true
    → (e : Error) → kind_of e ≢ OutOfMemory → HasKind (fault_of two_operand_app words) e
    → None ≡ two_of words
refused-two [] plain e other kinds = refl
refused-two (a ∷ []) plain e other kinds = refl
refused-two (a ∷ b ∷ []) plain e other (inl full) = absurd (other full)
refused-two (a ∷ b ∷ []) plain e other (inr among) =
    let none = fault-two a b (and-left _ _ plain) (and-left _ _ (and-right (is_plain_word a) _ plain)) in
    let P : List ErrorKind → Type 0 = IsAmong (kind_of e) in
    absurd (subst P none among)
refused-two (a ∷ b ∷ c ∷ rest) plain e other kinds = refl

-- ---- three words

abbrev pub first_three : List Text → Option (Text × Text × Text)
first_three words = let rows = matches_of three_operand_app words in
    all_three (first_of (codes "first") rows) (first_of (codes "second") rows) (first_of (codes "third") rows)

-- a fault is one
some-fault : {A : Type 0} {x : A} {xs : List A} → x ∷ xs ≢ []
some-fault h = cc

fault-three : (a b c : Text) → is_plain_word a ≡ true → is_plain_word b ≡ true → is_plain_word c ≡ true
    → fault_of three_operand_app (a ∷ b ∷ c ∷ []) ≡ []
unfolding clap_on_literals
fault-three (x ∷ xs) (y ∷ ys) (z ∷ zs) hx hy hz =
    let ex : (x == 45) ≡ false = not-true (x == 45) hx in
    let ey : (y == 45) ≡ false = not-true (y == 45) hy in
    let ez : (z == 45) ≡ false = not-true (z == 45) hz in
    simp (ex, ey, ez) refl
fault-three [] b c hx hy hz = cc
fault-three (x ∷ xs) [] c hx hy hz = cc
fault-three (x ∷ xs) (y ∷ ys) [] hx hy hz = cc

rows-three : (a b c : Text) → is_plain_word a ≡ true → is_plain_word b ≡ true → is_plain_word c ≡ true
    → first_three (a ∷ b ∷ c ∷ []) ≡ Some (a, b, c)
unfolding clap_on_literals
rows-three (x ∷ xs) (y ∷ ys) (z ∷ zs) hx hy hz =
    let ex : (x == 45) ≡ false = not-true (x == 45) hx in
    let ey : (y == 45) ≡ false = not-true (y == 45) hy in
    let ez : (z == 45) ≡ false = not-true (z == 45) hz in
    simp (ex, ey, ez) refl
rows-three [] b c hx hy hz = cc
rows-three (x ∷ xs) [] c hx hy hz = cc
rows-three (x ∷ xs) (y ∷ ys) [] hx hy hz = cc

three-fault-none : fault_of three_operand_app [] ≢ []
unfolding clap_on_literals
three-fault-none = λ h. cc

three-fault-one : (a : Text) → is_plain_word a ≡ true → fault_of three_operand_app (a ∷ []) ≢ []
unfolding clap_on_literals
three-fault-one (x ∷ xs) hx =
    let ex : (x == 45) ≡ false = not-true (x == 45) hx in
    simp (ex) (λ h. cc)
three-fault-one [] hx = cc

three-fault-two : (a b : Text) → is_plain_word a ≡ true → is_plain_word b ≡ true → fault_of three_operand_app (a ∷ b ∷ []) ≢ []
unfolding clap_on_literals
three-fault-two (x ∷ xs) (y ∷ ys) hx hy =
    let ex : (x == 45) ≡ false = not-true (x == 45) hx in
    let ey : (y == 45) ≡ false = not-true (y == 45) hy in
    simp (ex, ey) (λ h. cc)
three-fault-two [] b hx hy = cc
three-fault-two (x ∷ xs) [] hx hy = cc

three-fault-more : (a b c d : Text) (rest : List Text) → is_plain_word a ≡ true → is_plain_word b ≡ true → is_plain_word c ≡ true
    → is_plain_word d ≡ true → fault_of three_operand_app (a ∷ b ∷ c ∷ d ∷ rest) ≢ []
unfolding clap_on_literals
three-fault-more (x ∷ xs) (y ∷ ys) (z ∷ zs) (w ∷ ws) rest hx hy hz hw =
    let ex : (x == 45) ≡ false = not-true (x == 45) hx in
    let ey : (y == 45) ≡ false = not-true (y == 45) hy in
    let ez : (z == 45) ≡ false = not-true (z == 45) hz in
    let ew : (w == 45) ≡ false = not-true (w == 45) hw in
    simp (ex, ey, ez, ew) some-fault
three-fault-more [] b c d rest hx hy hz hw = cc
three-fault-more (x ∷ xs) [] c d rest hx hy hz hw = cc
three-fault-more (x ∷ xs) (y ∷ ys) [] d rest hx hy hz hw = cc
three-fault-more (x ∷ xs) (y ∷ ys) (z ∷ zs) [] rest hx hy hz hw = cc

-- `clap` takes the words only where there are just three, and then gives them
pub taken-three : (words : List Text) → list_all is_plain_word words ≡ true
    → fault_of three_operand_app words ≡ [] → first_three words ≡ three_of words
taken-three [] plain none = absurd (three-fault-none none)
taken-three (a ∷ []) plain none = absurd (three-fault-one a (and-left _ _ plain) none)
taken-three (a ∷ b ∷ []) plain none =
    absurd (three-fault-two a b (and-left _ _ plain) (and-left _ _ (and-right (is_plain_word a) _ plain)) none)
taken-three (a ∷ b ∷ c ∷ []) plain none =
    let more = and-right (is_plain_word a) _ plain in
    let last = and-right (is_plain_word b) _ more in
    rows-three a b c (and-left _ _ plain) (and-left _ _ more) (and-left _ _ last)
taken-three (a ∷ b ∷ c ∷ d ∷ rest) plain none =
    let more = and-right (is_plain_word a) _ plain in
    let further = and-right (is_plain_word b) _ more in
    let last = and-right (is_plain_word c) _ further in
    absurd (three-fault-more a b c d rest (and-left _ _ plain) (and-left _ _ more) (and-left _ _ further) (and-left _ _ last) none)

-- where `clap` refuses them for another cause than memory, there are not three
pub refused-three : (words : List Text) → list_all is_plain_word words ≡ true
    → (e : Error) → kind_of e ≢ OutOfMemory → HasKind (fault_of three_operand_app words) e
    → None ≡ three_of words
refused-three [] plain e other kinds = refl
refused-three (a ∷ []) plain e other kinds = refl
refused-three (a ∷ b ∷ []) plain e other kinds = refl
refused-three (a ∷ b ∷ c ∷ []) plain e other (inl full) = absurd (other full)
refused-three (a ∷ b ∷ c ∷ []) plain e other (inr among) =
    let more = and-right (is_plain_word a) _ plain in
    let last = and-right (is_plain_word b) _ more in
    let none = fault-three a b c (and-left _ _ plain) (and-left _ _ more) (and-left _ _ last) in
    let P : List ErrorKind → Type 0 = IsAmong (kind_of e) in
    absurd (subst P none among)
refused-three (a ∷ b ∷ c ∷ d ∷ rest) plain e other kinds = refl

-- the texts behind a pair of references
pub texts-zip : (p q : Option (Bor Text)) (a b : Option Text)
    → option_map (λ s. s.now) p ≡ a → option_map (λ s. s.now) q ≡ b
    → option_map (λ r. (r.0.now, r.1.now)) (option_zip p q) ≡ option_zip a b
texts-zip p q a b ha hb = subst (λ a'. option_map (λ r. (r.0.now, r.1.now)) (option_zip p q) ≡ option_zip a' b) ha
    (subst (λ b'. option_map (λ r. (r.0.now, r.1.now)) (option_zip p q) ≡ option_zip (option_map (λ s. s.now) p) b') hb (go p q))
  where
    go : (p q : Option (Bor Text)) → option_map (λ r. (r.0.now, r.1.now)) (option_zip p q)
        ≡ option_zip (option_map (λ s. s.now) p) (option_map (λ s. s.now) q)
    go None q = refl
    go (Some x) None = refl
    go (Some x) (Some y) = refl
