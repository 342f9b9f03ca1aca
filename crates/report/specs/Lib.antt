pub mod PlanLine
