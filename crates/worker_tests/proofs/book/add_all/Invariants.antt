use Rattle.std.proofs.Common.{◌≡◌, vec_len}
use Rattle.worker_tests.proofs.book.add_all.Given as goal

abbrev pub invariant-loop-addition : goal.invariant-loop-addition
invariant-loop-addition g l = vec_len l.shares ≡ vec_len l.initial.shares
