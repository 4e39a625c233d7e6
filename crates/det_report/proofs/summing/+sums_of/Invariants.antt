use Rattle.std.proofs.Common.{◌≡◌, ◌+◌, ◌^◌, ◌%◌, ◌<◌, length}
use Rattle.std.specs.List.{flat_map, sum_by}
use Rattle.space_model.specs.Encoding.{size_of}
use Rattle.report_model.specs.Summary.{tops_of}
use Rattle.det_report.proofs.Sums.{tops_in, sizes_in}
use Rattle.det_report.proofs.summing.+sums_of.Given as goal

-- with the children that are left, which together are smaller than the space
abbrev pub invariant-loop-child : goal.invariant-loop-child
invariant-loop-child l = record {
  spaces : (l.spaces + length (flat_map tops_in l.child-iterator)) % 2 ^ 64 ≡ length (tops_of l.space) % 2 ^ 64;
  used : (l.used + sum_by (λ t. t.used) (flat_map tops_in l.child-iterator)) % 2 ^ 64 ≡ sum_by (λ t. t.used) (tops_of l.space) % 2 ^ 64;
  smaller : sizes_in l.child-iterator < size_of l.space;
}
