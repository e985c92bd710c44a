-- How a bisector keeps what it has come to.
use Rattle.std.specs.Prelude.{◌<◌, ◌≤◌, length}
use Rattle.forward_index.specs.Forward.{IsForward}
use Rattle.bisection.specs.declared.bisector.Bisector.TheInside as bisector
use Rattle.bisection.specs.Progress.{AreOptions, Progress, slabs_of}
use Rattle.bisection.specs.Cells.{IsStanding}

abbrev pub progress_in : bisector.Inside → Progress
progress_in inside = record {
  forward = inside.forward.now;
  options = inside.options;
  done = inside.done;
  numbering = inside.numbering;
  trace = inside.trace.items;
}

-- the logarithms go up to more than the number of documents
pub record IsBisector (inside : bisector.Inside) : Type 0 where
  pub options : AreOptions inside.options
  pub sound : IsForward inside.forward.now
  pub most : inside.done ≤ slabs_of inside.options
  pub top : length inside.forward.now.rows < inside.logs
  pub standing : IsStanding inside.forward.now inside.options inside.done inside.numbering
      inside.parts.items inside.trace.items
