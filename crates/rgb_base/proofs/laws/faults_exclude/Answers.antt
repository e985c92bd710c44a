use Rattle.rgb_base.proofs.Exclude.{parts_faults_exclude, index_has_no_fault, order_faults_exclude, order_has_no_fault}
use Rattle.rgb_base.proofs.laws.faults_exclude.Goals as goal

pub returns : goal.returns
returns c = record { parts = parts_faults_exclude; index = index_has_no_fault; orders = order_faults_exclude; order = order_has_no_fault }
