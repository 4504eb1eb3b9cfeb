-- The lines of two worked certificates, and that they are read as these.
use Rattle.std.specs.Prelude.{ℕ, pos, List, ◌++◌, Ok, codes}
use Rattle.vx_cert.specs.Reading.{ReadsAs}
use Rattle.vx_days.specs.CertificateExamples.{level_certificate, first_version}

-- as it stands in examples/certificate-a-k0.jsonl
abbrev pub level_line : List ℕ
level_line =
    codes "{\"date\":\"2014-10-17\",\"k0\":2000000,\"kind\":\"k0\",\"line\":14,\"pair\":[2000000,0],"
    ++ codes "\"root\":\"SPX\",\"time\":\"08:30\",\"v\":1}"

-- the line of the file is read as the worked certificate of kind `k0`
abbrev pub LevelLineIsRead : Type 0
LevelLineIsRead = ReadsAs level_line (Ok (level_certificate 14 (pos 0) 2000000))

-- and in examples/certificate-a-single.jsonl
abbrev pub single_line : List ℕ
single_line =
    codes "{\"cents\":2066,\"ends\":[\"20657919\",\"20657920\"],\"kind\":\"single\",\"line\":14,"
    ++ codes "\"term\":{\"date\":\"2014-10-17\",\"e\":[\"1152921504606846976\",\"1152921504606846976\"],"
    ++ codes "\"exp\":[[\"1152921504606846976\",\"0\",\"0\",\"0\",\"0\",\"0\",\"0\",\"0\",\"0\",\"0\",\"0\",\"0\","
    ++ codes "\"0\",\"0\"],[\"1152921504606846976\",\"0\",\"0\",\"0\",\"0\",\"0\",\"0\",\"0\",\"0\",\"0\",\"0\","
    ++ codes "\"0\",\"0\",\"0\"]],\"f\":[\"2305843009213693952000000\",\"2305843009213693952000000\"],"
    ++ codes "\"g\":[\"0\",\"0\"],\"k0\":2000000,\"minutes\":43200,\"pair\":[2000000,0],\"rate\":0,"
    ++ codes "\"root\":\"SPX\",\"rows\":[[1900000,200000,4000,\"319368837841231\",\"319368837841232\"],[2000000,"
    ++ codes "200000,20000,\"1441151880758558\",\"1441151880758559\"],[2100000,200000,4000,\"261433447756654\","
    ++ codes "\"261433447756655\"]],\"s\":[\"2021954166356443\",\"2021954166356446\"],\"w\":[\"4043908332712886\","
    ++ codes "\"4043908332712892\"]},\"time\":\"08:30\",\"v\":1,\"x\":[\"49200884714673446\","
    ++ codes "\"49200884714673520\"]}"

-- the line of the file is read as the worked certificate of kind `single`
abbrev pub SingleLineIsRead : Type 0
SingleLineIsRead = ReadsAs single_line (Ok (first_version 1152921504606846976 319368837841232 20657919 20657920))
