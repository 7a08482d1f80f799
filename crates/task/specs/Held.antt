-- The task whose parts lie in lent slices.
use Rattle.task.specs.Task.{Task, posed}
use Rattle.task.specs.declared.Task as declared

abbrev pub task_of : declared.Task → Task
task_of t = posed t.source.now t.widths.now t.lasts.now t.target.now t.own.now
