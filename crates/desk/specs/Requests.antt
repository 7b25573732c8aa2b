-- Changes and searches as commands.
use Rattle.graph_model.specs.Limits.{bounds_of}
use Rattle.graph_model.specs.Commands.{Command}
use Rattle.graph_model.specs.Commands as commands
use Rattle.desk.specs.declared.request.Change.{Change}
use Rattle.desk.specs.declared.request.Change.TheVariants as changes
use Rattle.desk.specs.declared.request.Search.{Search}
use Rattle.desk.specs.declared.request.Search.TheVariants as searches

abbrev pub change_command : Change → Command
change_command (changes.Limits set) = commands.SetLimits (bounds_of set)
change_command (changes.Add id fee size) = commands.Add id fee size
change_command (changes.Dep parent child) = commands.Dep parent child
change_command (changes.Fee id fee) = commands.SetFee id fee
change_command (changes.Remove id) = commands.Remove id
change_command changes.Stage = commands.Stage
change_command changes.Commit = commands.Commit
change_command changes.Abort = commands.Abort

abbrev pub search_command : Search → Command
search_command (searches.Cluster id level) = commands.Cluster id level
search_command (searches.Ancestors id level) = commands.Ancestors id level
search_command (searches.Descendants id level) = commands.Descendants id level
