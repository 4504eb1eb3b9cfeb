use Rattle.std.proofs.Common.{◌≡◌, [], ◌∷◌, ◌++◌, refl, ap, true}
use Rattle.std.specs.Prelude.{is_ok, string_bytes}
use Rattle.vx_desk.specs.Memory.{held}
use Rattle.vx_desk.specs.MemFiles.{files_of, IsFileAt}
use Rattle.vx_desk.proofs.MemoryLemmas.{held-set, held-set_other, held-pushed, held-pushed_other}
use Rattle.vx_desk.proofs.memory.put_file.Goals as goal

pub returns-in-Some-clause-added : goal.returns-in-Some-clause-added
returns-in-Some-clause-added c =
    let at : IsFileAt c.args.files.now.items (string_bytes c.args.file.name) c.in-Some.place = rw (← c.deref.ensures.value, ← c.as_str.ensures.value) c.in-Some.ensures in
    held-set c.args.files.now.items c.in-Some.place c.args.file (string_bytes c.args.file.name) refl at.within (λ k below. at.first k c.args.file below)

pub returns-in-Some-clause-others : goal.returns-in-Some-clause-others
returns-in-Some-clause-others c = λ other ne.
    let at : IsFileAt c.args.files.now.items (string_bytes c.args.file.name) c.in-Some.place = rw (← c.deref.ensures.value, ← c.as_str.ensures.value) c.in-Some.ensures in
    held-set_other c.args.files.now.items c.in-Some.place c.args.file (string_bytes c.args.file.name) other refl at.name_is ne

pub returns-in_ok-push-in-None-clause-added : goal.returns-in_ok-push-in-None-clause-added
returns-in_ok-push-in-None-clause-added c =
    let done : is_ok c.push.result ≡ true = ap is_ok c.in_ok-push-in-None.was in
    let items : c.push.new.self.items ≡ c.args.files.now.items ++ c.args.file ∷ [] = rw done at c.push.ensures.items in
    let none : held (files_of c.args.files.now.items) (string_bytes c.args.file.name) ≡ _ = rw (← c.deref.ensures.value, ← c.as_str.ensures.value) c.in-None.ensures in
    rw items (held-pushed c.args.files.now.items c.args.file (string_bytes c.args.file.name) refl none)

pub returns-in_ok-push-in-None-clause-others : goal.returns-in_ok-push-in-None-clause-others
returns-in_ok-push-in-None-clause-others c = λ other ne.
    let done : is_ok c.push.result ≡ true = ap is_ok c.in_ok-push-in-None.was in
    let items : c.push.new.self.items ≡ c.args.files.now.items ++ c.args.file ∷ [] = rw done at c.push.ensures.items in
    rw items (held-pushed_other c.args.files.now.items c.args.file (string_bytes c.args.file.name) other refl ne)
