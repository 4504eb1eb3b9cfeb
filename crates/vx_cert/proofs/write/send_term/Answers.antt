use Rattle.std.proofs.lemmas.Result.{on_ok_weaker}
use Rattle.vx_cert.proofs.WrittenBack.{term_back}
use Rattle.vx_cert.proofs.WrittenData.{on_ok}
use Rattle.vx_cert.proofs.write.send_term.Goals as goal

pub returns-clause-read_back : goal.returns-clause-read_back
returns-clause-read_back g c =
    on_ok c.end_map.result (λ h. record {
      read_back = term_back c.args.term.now h c.in_ok-pair.ensures.read_back c.in_ok-word.ensures.read_back c.in_ok-taylor.ensures.read_back c.in_ok-rows.ensures.read_back;
    })

pub returns-clause-sent : goal.returns-clause-sent
returns-clause-sent g c =
    let w = g.S.Serializer.written in
    on_ok_weaker c.end_map.result (λ e. (
      w c.begin_map.new.self,
      c.in_ok-begin_map.ensures,
      (
        w c.key.new.self,
        w c.date.new.out,
        c.in_ok-key.ensures,
        c.in_ok-date.ensures,
        (
          w c.key-2.new.self,
          w c.ends.new.out,
          c.in_ok-key-2.ensures,
          c.in_ok-ends.ensures,
          (
            w c.key-3.new.self,
            w c.taylor.new.out,
            c.in_ok-key-3.ensures,
            c.in_ok-taylor.ensures.sent,
            (
              w c.key-4.new.self,
              w c.ends-2.new.out,
              c.in_ok-key-4.ensures,
              c.in_ok-ends-2.ensures,
              (
                w c.key-5.new.self,
                w c.ends-3.new.out,
                c.in_ok-key-5.ensures,
                c.in_ok-ends-3.ensures,
                (
                  w c.key-6.new.self,
                  w c.word.new.out,
                  c.in_ok-key-6.ensures,
                  c.in_ok-word.ensures.sent,
                  (
                    w c.key-7.new.self,
                    w c.word-2.new.out,
                    c.in_ok-key-7.ensures,
                    c.in_ok-word-2.ensures.sent,
                    (
                      w c.key-8.new.self,
                      w c.pair.new.out,
                      c.in_ok-key-8.ensures,
                      c.in_ok-pair.ensures.sent,
                      (
                        w c.key-9.new.self,
                        w c.rate.new.out,
                        c.in_ok-key-9.ensures,
                        c.in_ok-rate.ensures,
                        (
                          w c.key-10.new.self,
                          w c.root.new.out,
                          c.in_ok-key-10.ensures,
                          c.in_ok-root.ensures,
                          (
                            w c.key-11.new.self,
                            w c.rows.new.out,
                            c.in_ok-key-11.ensures,
                            c.in_ok-rows.ensures.sent,
                            (
                              w c.key-12.new.self,
                              w c.ends-4.new.out,
                              c.in_ok-key-12.ensures,
                              c.in_ok-ends-4.ensures,
                              (
                                w c.key-13.new.self,
                                w c.ends-5.new.out,
                                c.in_ok-key-13.ensures,
                                c.in_ok-ends-5.ensures,
                                e,
                              ),
                            ),
                          ),
                        ),
                      ),
                    ),
                  ),
                ),
              ),
            ),
          ),
        ),
      ),
    )) c.end_map.ensures
