use Rattle.big_memory.proofs.Lists.{length-put, put-nil, part-put_same, part-put_inside, part-put_apart, put-part, put-put_same, put-put_inside, put-put_apart, put-append, drop-put, get_or-put_inside, get_or-put_outside, get_or-put_replicate}
use Rattle.big_memory.proofs.laws.put_laws.Goals as goal

pub returns : goal.returns
returns c = record {
  length = length-put;
  nothing = put-nil;
  reads_back = part-put_same;
  reads_inside = part-put_inside;
  reads_beside = part-put_apart;
  holds = get_or-put_inside;
  beside = get_or-put_outside;
  same = put-part;
  over = put-put_same;
  inside = put-put_inside;
  apart = put-put_apart;
  joins = put-append;
  from = drop-put;
  run = get_or-put_replicate;
}
