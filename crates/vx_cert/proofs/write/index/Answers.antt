use Rattle.std.proofs.lemmas.Result.{on_ok_weaker}
use Rattle.vx_cert.proofs.WrittenData.{on_ok}
use Rattle.vx_cert.proofs.write.index.Goals as goal

pub returns-clause-near : goal.returns-clause-near
returns-clause-near g c = on_ok c.end_map.result c.in_ok-send_term.ensures.read_back

pub returns-clause-next : goal.returns-clause-next
returns-clause-next g c = on_ok c.end_map.result c.in_ok-send_term-2.ensures.read_back

pub returns-clause-sent : goal.returns-clause-sent
returns-clause-sent g c =
    let w = g.S.Serializer.written in
    on_ok_weaker c.end_map.result (λ e. (
      w c.begin_map.new.self,
      c.in_ok-begin_map.ensures,
      (
        w c.key.new.self,
        w c.u64.new.self,
        c.in_ok-key.ensures,
        c.in_ok-u64.ensures,
        (
          w c.key-2.new.self,
          w c.word.new.out,
          c.in_ok-key-2.ensures,
          c.in_ok-word.ensures.sent,
          (
            w c.key-3.new.self,
            w c.index_ends.new.out,
            c.in_ok-key-3.ensures,
            c.in_ok-index_ends.ensures,
            (
              w c.key-4.new.self,
              w c.str.new.self,
              c.in_ok-key-4.ensures,
              c.in_ok-str.ensures,
              (
                w c.key-5.new.self,
                w c.u64-2.new.self,
                c.in_ok-key-5.ensures,
                c.in_ok-u64-2.ensures,
                (
                  w c.key-6.new.self,
                  w c.send_term.new.out,
                  c.in_ok-key-6.ensures,
                  c.in_ok-send_term.ensures.sent,
                  (
                    w c.key-7.new.self,
                    w c.send_term-2.new.out,
                    c.in_ok-key-7.ensures,
                    c.in_ok-send_term-2.ensures.sent,
                    (
                      w c.key-8.new.self,
                      w c.time.new.out,
                      c.in_ok-key-8.ensures,
                      c.in_ok-time.ensures,
                      (
                        w c.key-9.new.self,
                        w c.word-2.new.out,
                        c.in_ok-key-9.ensures,
                        c.in_ok-word-2.ensures.sent,
                        (w c.key-10.new.self, w c.ends.new.out, c.in_ok-key-10.ensures, c.in_ok-ends.ensures, e),
                      ),
                    ),
                  ),
                ),
              ),
            ),
          ),
        ),
      ),
    )) c.end_map.ensures
