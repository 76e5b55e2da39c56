use Rattle.std.proofs.Common.{◌≡◌, ◌+◌, ◌%◌, ◌++◌, length, set, drop, arith, refl}
use Rattle.std.proofs.lemmas.List.{length-set}
use Rattle.wire_varint.specs.Varint.{encoding}
use Rattle.wire_varint.proofs.Encoding.{Completes-room, Completes-more, Completes-last, Completes-start, drop-set_more, encoding-is_varint, encoding-shortest}
use Rattle.wire_varint.proofs.writing.write.Goals as goal
use Rattle.wire_varint.proofs.writing.write.Goals.{After-loop-rest}

pub loop-rest-init : goal.loop-rest-init
loop-rest-init c = record {
  room = c.requires.room;
  within = omega arith;
  few = omega arith;
  fits = omega arith;
  completes = Completes-start c.args.value c.args.out.now;
  kept = refl;
}

pub bounds-out-used : goal.bounds-out-used
bounds-out-used c =
    let l = c.loop-rest.invariant in
    Completes-room c.args.value c.loop-rest.used c.loop-rest.rest c.loop-rest.out l.within l.fits l.room l.completes

pub bounds-out-used-2 : goal.bounds-out-used-2
bounds-out-used-2 c =
    let l = c.loop-rest.invariant in
    Completes-room c.args.value c.loop-rest.used c.loop-rest.rest c.loop-rest.out l.within l.fits l.room l.completes

pub loop-rest-preserved : goal.loop-rest-preserved
loop-rest-preserved c =
    let l = c.loop-rest.invariant in
    let below = Completes-room c.args.value c.loop-rest.used c.loop-rest.rest c.loop-rest.out l.within l.fits l.room l.completes in
    let more = Completes-more c.args.value c.loop-rest.used c.loop-rest.rest c.loop-rest.out below c.loop-rest-test.true l.few l.fits l.completes in
    record {
      room = rw length-set l.room;
      within = rw length-set (omega arith);
      few = more.0;
      fits = more.1;
      completes = more.2;
      kept = drop-set_more c.loop-rest.used (c.loop-rest.rest % 128 + 128) c.loop-rest.out c.args.out.now l.kept;
    }

-- the end of the loop: the count of the bytes, and the bytes
last : (c : After-loop-rest) →
    (c.loop-rest.used + 1 ≡ length (encoding c.args.value))
    × (set c.loop-rest.out c.loop-rest.used c.loop-rest.rest ≡ encoding c.args.value ++ drop (c.loop-rest.used + 1) c.args.out.now)
last c =
    let l = c.loop-rest.invariant in
    let below = Completes-room c.args.value c.loop-rest.used c.loop-rest.rest c.loop-rest.out l.within l.fits l.room l.completes in
    Completes-last c.args.value c.loop-rest.used c.loop-rest.rest c.loop-rest.out c.args.out.now below c.loop-rest-test.false l.kept l.completes

pub returns-clause-used : goal.returns-clause-used
returns-clause-used c = (last c).0

pub returns-clause-written : goal.returns-clause-written
returns-clause-written c = (last c).1

pub returns-clause-varint : goal.returns-clause-varint
returns-clause-varint c = encoding-is_varint c.args.value c.ranges.value.fits

pub returns-clause-shortest : goal.returns-clause-shortest
returns-clause-shortest c = λ others v. rw ((last c).0) (encoding-shortest c.args.value others c.ranges.value.fits v)
