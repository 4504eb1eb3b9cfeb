use Rattle.std.proofs.Common.{◌≢◌, List, ℕ, refl, ◌∙◌, ap, Some}
use Rattle.vx_desk.specs.declared.device.Slot.{Slot}
use Rattle.vx_desk.specs.declared.device.Slot.TheVariants.{Feed, Side, Out, Certs}
use Rattle.vx_desk.specs.Memory.{Memory, held}
use Rattle.vx_desk.proofs.MemoryLemmas.{same_memory, closed_source, closed_sink, closed_sink_at}
use Rattle.vx_desk.proofs.memory.MemDesk.add_file.Goals as goal

not_out_feed : ◌≢◌ {A = Slot} Feed Out
not_out_feed = λ e. cc

not_out_side : ◌≢◌ {A = Slot} Side Out
not_out_side = λ e. cc

not_out_certs : ◌≢◌ {A = Slot} Certs Out
not_out_certs = λ e. cc

pub returns-clause-added : goal.returns-clause-added
returns-clause-added c =
    let is = c.self.view_is in
    let old = c.self.inside.files.items in
    let new = c.put_file.new.files.items in
    let name = c.in_ok-file.ensures.0 in
    record {
      added = rw (← name) (c.in_ok-put_file.ensures.added ∙ ap (λ (bytes : List ℕ). Some bytes) c.in_ok-file.ensures.1);
      others = λ other ne. c.in_ok-put_file.ensures.others other (λ e. ne (e ∙ name)) ∙ ap (λ (m : Memory). held m.files other) is;
      rest = same_memory _ _
          (ap (λ (m : Memory). m.room) is)
          (ap (λ (m : Memory). m.most) is)
          (ap (λ (m : Memory). m.fails) is)
          (ap (λ (m : Memory). m.calls) is)
          refl
          (closed_source old new c.self.inside.feed c.args.self.now.feed (ap (λ (m : Memory). m.feed) is) c.self.invariant.4 (c.requires Feed not_out_feed))
          (closed_source old new c.self.inside.side c.args.self.now.side (ap (λ (m : Memory). m.side) is) c.self.invariant.5 (c.requires Side not_out_side))
          (closed_sink_at old new c.self.inside.out c.args.self.now.out (ap (λ (m : Memory). m.out) is) c.self.invariant.3)
          (closed_sink old new c.self.inside.certs c.args.self.now.certs (ap (λ (m : Memory). m.certs) is) c.self.invariant.6 (c.requires Certs not_out_certs));
    }
