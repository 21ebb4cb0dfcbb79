use Rattle.offline_reader.proofs.Scanning.{count_found, fault_found}
use Rattle.offline_reader.proofs.scan.outcome_of.Goals as goal

pub returns-in-Ok : goal.returns-in-Ok
returns-in-Ok c = λ most file h le.
    count_found c.args.reader.now file most c.in-Ok.count (λ s holds n. (c.in-Ok.ensures.count s holds n).0) (λ s holds f. (c.in-Ok.ensures.fault s holds f).1) h le

pub returns-in-Err : goal.returns-in-Err
returns-in-Err c = λ most file h le. fault_found c.args.reader.now file most c.in-Err.fault c.in-Err.ensures.fault h le
