use Rattle.std.proofs.Common.{◌↔◌, IsTrue, sym, subst}
use Rattle.vx_clock.specs.declared.limits.TheConstants.{INDEX_DAYS, INDEX_WINDOW}
use Rattle.vx_cert.specs.declared.certificate.CertBody.{CertBody}
use Rattle.vx_claims.specs.Accepts.{scale_of, BodyMeets}
use Rattle.vx_check.specs.Answers.{AreMetBefore, BodyMeetsAsIndex}
use Rattle.vx_check.specs.Numbers.{BodyNumbersMeet, IndexNumbersMeet}
use Rattle.vx_check.proofs.check.cert_meets.Goals as goal

pub single_meets-requires : goal.single_meets-requires
single_meets-requires c =
    subst (λ (body : CertBody). AreMetBefore (BodyNumbersMeet (scale_of c.args.c.now.v) body) c.args.test) c.in-Single.is c.requires

pub soq_meets-requires : goal.soq_meets-requires
soq_meets-requires c =
    subst (λ (body : CertBody). AreMetBefore (BodyNumbersMeet (scale_of c.args.c.now.v) body) c.args.test) c.in-Soq.is c.requires

pub returns-in-K0-clause-exact : goal.returns-in-K0-clause-exact
returns-in-K0-clause-exact c = λ events reached lawful.
    let cert = c.args.c.now in
    let Says : CertBody → Type 0 = λ body. AreMetBefore (BodyMeets INDEX_DAYS INDEX_WINDOW events cert.v cert.line cert.time body) c.args.test
    → (IsTrue c.level_meets.result ↔ BodyMeets INDEX_DAYS INDEX_WINDOW events cert.v cert.line cert.time body c.args.test) in
    subst Says (sym c.in-K0.is) (c.level_meets.ensures events reached)

pub returns-in-Single-clause-exact : goal.returns-in-Single-clause-exact
returns-in-Single-clause-exact c = λ events reached lawful.
    let cert = c.args.c.now in
    let Says : CertBody → Type 0 = λ body. AreMetBefore (BodyMeets INDEX_DAYS INDEX_WINDOW events cert.v cert.line cert.time body) c.args.test
    → (IsTrue c.single_meets.result ↔ BodyMeets INDEX_DAYS INDEX_WINDOW events cert.v cert.line cert.time body c.args.test) in
    subst Says (sym c.in-Single.is) (c.single_meets.ensures.exact events reached)

pub returns-in-Soq-clause-exact : goal.returns-in-Soq-clause-exact
returns-in-Soq-clause-exact c = λ events reached lawful.
    let cert = c.args.c.now in
    let Says : CertBody → Type 0 = λ body. AreMetBefore (BodyMeets INDEX_DAYS INDEX_WINDOW events cert.v cert.line cert.time body) c.args.test
    → (IsTrue c.soq_meets.result ↔ BodyMeets INDEX_DAYS INDEX_WINDOW events cert.v cert.line cert.time body c.args.test) in
    subst Says (sym c.in-Soq.is) (c.soq_meets.ensures.exact events reached lawful)

pub returns-in-Single-clause-numbers : goal.returns-in-Single-clause-numbers
returns-in-Single-clause-numbers c = λ t.
    subst (λ (body : CertBody). BodyNumbersMeet (scale_of c.args.c.now.v) body c.args.test) (sym c.in-Single.is) (c.single_meets.ensures.numbers t)

pub returns-in-Soq-clause-numbers : goal.returns-in-Soq-clause-numbers
returns-in-Soq-clause-numbers c = λ t.
    subst (λ (body : CertBody). BodyNumbersMeet (scale_of c.args.c.now.v) body c.args.test) (sym c.in-Soq.is) (c.soq_meets.ensures.numbers t)

pub index_meets-requires-clause-earlier : goal.index_meets-requires-clause-earlier
index_meets-requires-clause-earlier c =
    let P = scale_of c.args.c.now.v in
    subst (λ (body : CertBody). AreMetBefore (IndexNumbersMeet P body) c.args.test) (sym c.in-Index.is)
    (subst (λ (body : CertBody). AreMetBefore (BodyNumbersMeet P body) c.args.test) c.in-Index.is c.requires)

pub returns-in-Index-clause-numbers : goal.returns-in-Index-clause-numbers
returns-in-Index-clause-numbers c = λ t.
    let P = scale_of c.args.c.now.v in
    subst (λ (body : CertBody). BodyNumbersMeet P body c.args.test) (sym c.in-Index.is)
    (subst (λ (body : CertBody). IndexNumbersMeet P body c.args.test) c.in-Index.is (c.index_meets.ensures.numbers t))

pub returns-in-Index-clause-exact : goal.returns-in-Index-clause-exact
returns-in-Index-clause-exact c = λ events reached lawful.
    let cert = c.args.c.now in
    let Asks : CertBody → Type 0 = λ body. AreMetBefore (BodyMeetsAsIndex INDEX_DAYS INDEX_WINDOW events cert.v cert.line cert.time body) c.args.test
    → (IsTrue c.index_meets.result ↔ BodyMeetsAsIndex INDEX_DAYS INDEX_WINDOW events cert.v cert.line cert.time body c.args.test) in
    let Says : CertBody → Type 0 = λ body. AreMetBefore (BodyMeets INDEX_DAYS INDEX_WINDOW events cert.v cert.line cert.time body) c.args.test
    → (IsTrue c.index_meets.result ↔ BodyMeets INDEX_DAYS INDEX_WINDOW events cert.v cert.line cert.time body c.args.test) in
    subst Says (sym c.in-Index.is) (subst Asks c.in-Index.is (c.index_meets.ensures.exact events reached))
