mod PlanRows
